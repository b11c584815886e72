use Rattle.std.proofs.Common.{◌≤◌, ◌∙◌, arith}
use Rattle.fp_linear.proofs.Meeting.{rank_fits, reduced_clear}
use Rattle.module_checks.proofs.Steps.{AsksMore-reduced}
use Rattle.module_checks.proofs.folding.make_room.Goals as goal

pub returns-else-used-rows-clause-result : goal.returns-else-used-rows-clause-result
returns-else-used-rows-clause-result c =
    let fits : c.echelon_rows.result ≤ c.args.unknowns = rank_fits c.args.field c.args.rows c.args.unknowns c.args.entries.now c.echelon_rows.new.entries c.echelon_rows.new.pivots c.echelon_rows.result c.requires.elements c.echelon_rows.ensures.elements c.echelon_rows.ensures.form in
    omega (arith, c.requires.room.many)

pub returns-else-used-rows-clause-clear : goal.returns-else-used-rows-clause-clear
returns-else-used-rows-clause-clear c = reduced_clear c.args.field c.args.rows c.args.unknowns c.args.entries.now c.echelon_rows.new.entries c.echelon_rows.new.pivots c.echelon_rows.result
    (c.echelon_rows.auto.entries ∙ c.requires.room.shape) c.echelon_rows.ensures.elements c.echelon_rows.ensures.form

pub returns-else-used-rows-clause-same : goal.returns-else-used-rows-clause-same
returns-else-used-rows-clause-same c = AsksMore-reduced c.args.field c.args.rows c.args.unknowns c.args.entries.now c.echelon_rows.new.entries c.echelon_rows.new.pivots c.echelon_rows.result
    c.requires.elements c.echelon_rows.ensures.elements c.echelon_rows.ensures.form
