use Rattle.std.proofs.Common.{◌<◌, length, sym, subst, arith}
use Rattle.std.proofs.lemmas.List.Elements.{All-contains, Contains-get_or}
use Rattle.linear_algebra.specs.Field.{order}
use Rattle.linear_algebra.specs.FieldLaws.{mul_below}
use Rattle.word_products.specs.SparseRows.{IsEntry}
use Rattle.word_products.proofs.SparseActs.{with_multiple-none, IsRow-with_multiple, with_multiple-step}
use Rattle.word_products.proofs.sparse.add_multiple.Goals as goal

pub loop-entry-init : goal.loop-entry-init
loop-entry-init c = with_multiple-none c.args.field c.args.factor c.args.into.now c.requires.into

pub add-requires-clause-a_below : goal.add-requires-clause-a_below
add-requires-clause-a_below c = rw c.loop-entry.invariant ((IsRow-with_multiple c.args.field c.args.factor _ c.args.into.now).small _)

pub add-requires-clause-b_below : goal.add-requires-clause-b_below
add-requires-clause-b_below c = subst (λ x. x < order c.args.field) (sym c.mul.ensures) (mul_below c.args.field _ _)

pub loop-entry-preserved : goal.loop-entry-preserved
loop-entry-preserved c = with_multiple-step c.args.field c.args.factor c.args.row.now c.loop-entry.entry-index c.args.into.now c.loop-entry.into (record { coef = 0; word = 0 }) c.mul.result c.add.result
    (omega arith)
    (All-contains (IsEntry c.args.field (length c.args.into.now)) c.args.row.now _ c.requires.entries (Contains-get_or c.args.row.now c.loop-entry.entry-index (record { coef = 0; word = 0 }) (omega arith))).inside
    c.loop-entry.invariant c.mul.ensures c.add.ensures
