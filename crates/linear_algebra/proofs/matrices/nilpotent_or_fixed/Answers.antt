-- The chain of images of all rows, and orbits in a stable subspace.
use Rattle.linear_algebra.proofs.NilOrFixed.{nil_or_fixed}
use Rattle.linear_algebra.proofs.matrices.nilpotent_or_fixed.Goals as goal

pub returns : goal.returns
returns c = λ q d s g closed. nil_or_fixed s g closed
