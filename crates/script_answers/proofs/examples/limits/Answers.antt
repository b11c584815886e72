use Rattle.std.proofs.Common.{refl}
use Rattle.quiver_paths.specs.Quiver.{source, target}
use Rattle.quiver_paths.specs.PathList.{paths_of_length}
use Rattle.module_types.specs.Readings.{dim_at}
use Rattle.script_answers.proofs.examples.limits.Goals as goal

pub returns-clause-modules : goal.returns-clause-modules
unfolding dim_at source target paths_of_length
returns-clause-modules c = (refl, refl, refl, refl)

pub returns-clause-homs : goal.returns-clause-homs
unfolding dim_at
returns-clause-homs c = (refl, refl, refl, refl)
