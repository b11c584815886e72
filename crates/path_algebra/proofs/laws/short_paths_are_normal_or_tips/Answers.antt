use Rattle.path_algebra.proofs.NormalFactors.{cases_normal}
use Rattle.path_algebra.proofs.laws.short_paths_are_normal_or_tips.Goals as goal

pub returns : goal.returns
returns c = cases_normal
