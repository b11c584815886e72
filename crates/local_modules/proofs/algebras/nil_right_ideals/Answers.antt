use Rattle.local_modules.proofs.NilIdeals.{nil_right_ideal}
use Rattle.local_modules.proofs.algebras.nil_right_ideals.Goals as goal

pub returns : goal.returns
returns c = λ q A n x p. nil_right_ideal A x n p
