use Rattle.std.proofs.Common.{refl}
use Rattle.module_types.specs.Readings.{dim_at}
use Rattle.script_answers.proofs.examples.late_limits.Goals as goal

pub returns-clause-extensions : goal.returns-clause-extensions
unfolding dim_at
returns-clause-extensions c = (refl, refl, refl, refl, refl)
