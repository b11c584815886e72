-- A defect would give too many independent rows.
use Rattle.linear_algebra.proofs.Dimension.{square_inverse as two_sided}
use Rattle.linear_algebra.proofs.matrices.square_inverse.Goals as goal

pub returns : goal.returns
returns c = λ q n f g e. two_sided f g e
