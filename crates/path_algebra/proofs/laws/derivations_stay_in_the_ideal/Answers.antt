use Rattle.path_algebra.proofs.IdealSteps.{steps_are_members}
use Rattle.path_algebra.proofs.laws.derivations_stay_in_the_ideal.Goals as goal

pub returns : goal.returns
returns c = steps_are_members
