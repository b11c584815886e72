use Rattle.script_answers.proofs.Fronts.{refusal_met, none_met}
use Rattle.script_answers.proofs.laws.refusals_are_met.Goals as goal

pub returns-clause-met : goal.returns-clause-met
returns-clause-met c = refusal_met

pub returns-clause-none : goal.returns-clause-none
returns-clause-none c = none_met
