use Rattle.std.proofs.Common.{arith}
use Rattle.row_spaces.proofs.ReducedForms.{row_form_in_place, IsMatrix-take}
use Rattle.row_spaces.proofs.forms.reduced_rows.Goals as goal

pub returns-clause-matrix : goal.returns-clause-matrix
returns-clause-matrix c = rw c.in_ok-basis.ensures (IsMatrix-take c.echelon_in_place-rank.new.m c.echelon_in_place-rank.result (omega (arith, c.echelon_in_place-rank.ensures.form.fits, c.echelon_in_place-rank.ensures.matrix.grid.count)) c.echelon_in_place-rank.ensures.matrix)

pub returns-clause-form : goal.returns-clause-form
returns-clause-form c =
    rw c.in_ok-basis.ensures
    (row_form_in_place c.args.matrix c.echelon_in_place-rank.new.m c.echelon_in_place-rank.new.pivots c.echelon_in_place-rank.result c.echelon_in_place-rank.ensures.shape c.rows.ensures.matrix c.echelon_in_place-rank.ensures.matrix c.echelon_in_place-rank.ensures.form)
