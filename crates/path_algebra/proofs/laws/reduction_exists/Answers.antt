use Rattle.path_algebra.proofs.ReductionExists.{reduction_exists}
use Rattle.path_algebra.proofs.laws.reduction_exists.Goals as goal

pub returns : goal.returns
returns c = λ h rules k apart. reduction_exists h rules k apart.ascending apart.apart
