use Rattle.row_spaces.proofs.OrthogonalForms.{kernel_in_place}
use Rattle.row_spaces.proofs.kernels.annihilator.Goals as goal

pub returns-clause-basis : goal.returns-clause-basis
returns-clause-basis c =
    kernel_in_place c.args.equations c.in_ok-basis.basis c.echelon_in_place.new.m c.echelon_in_place.new.pivots c.echelon_in_place.result
    c.in_ok-basis.ensures.shape c.in_ok-basis.ensures.matrix c.echelon_in_place.ensures.shape c.echelon_in_place.ensures.matrix c.in_ok-basis.ensures.basis c.echelon_in_place.ensures.form
