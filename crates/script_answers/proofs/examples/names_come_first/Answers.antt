use Rattle.std.proofs.Common.{refl}
use Rattle.module_types.specs.Readings.{dim_at}
use Rattle.script_answers.proofs.examples.names_come_first.Goals as goal

pub returns-clause-reference_first : goal.returns-clause-reference_first
unfolding dim_at
returns-clause-reference_first c = (refl, refl, refl)

pub returns-clause-sequences : goal.returns-clause-sequences
unfolding dim_at
returns-clause-sequences c = (refl, refl, refl, refl, refl)
