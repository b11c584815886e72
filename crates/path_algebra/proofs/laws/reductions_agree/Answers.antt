use Rattle.path_algebra.proofs.ReductionExists.{reduction_once}
use Rattle.path_algebra.proofs.laws.reductions_agree.Goals as goal

pub returns : goal.returns
returns c = reduction_once
