use Rattle.std.proofs.Common.{◌∙◌, arith}
use Rattle.local_checks.proofs.RowLists.{space_of_form}
use Rattle.local_checks.proofs.rows.reduce_rows.Goals as goal

pub returns-clause-space : goal.returns-clause-space
returns-clause-space c = space_of_form c.args.field c.args.rows c.args.cols c.args.entries.now c.echelon_rows.new.entries c.echelon_rows.new.pivots c.echelon_rows.result
    c.requires.elements c.echelon_rows.ensures.elements (c.echelon_rows.auto.entries ∙ c.requires.count) (omega (arith, c.requires.room, c.echelon_rows.auto.pivots)) c.echelon_rows.ensures.form
