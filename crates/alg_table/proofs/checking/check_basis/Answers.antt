use Rattle.alg_table.specs.FirstClauses.{MeetsFirstClauses}
use Rattle.alg_table.proofs.CheckedTable.{acting, checked_table, checked_rows}
use Rattle.alg_table.proofs.checking.check_basis.Goals as goal

pub products_if_action_holds-requires : goal.products_if_action_holds-requires
products_if_action_holds-requires c = acting c.args.header.now c.args.words.now c.args.steps.now c.args.rules.now c.requires.allowed c.requires.claim (rw c.in_default.is at c.in_ok-fault.ensures)

pub table_of-requires : goal.table_of-requires
table_of-requires c =
    let first = rw c.in_default.is at c.in_ok-fault.ensures in
    let action = rw c.in-Some-2.is at c.in_ok-products_if_action_holds.ensures in
    record {
      table = checked_table c.args.header.now c.args.words.now c.args.steps.now c.args.rules.now c.requires.allowed c.requires.claim first action.0;
      rows = checked_rows c.args.header.now c.args.words.now c.args.steps.now c.args.rules.now c.requires.allowed c.requires.claim first action.0 c.in-Some-2.rows action.1;
    }
