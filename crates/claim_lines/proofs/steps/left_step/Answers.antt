use Rattle.claim_lines.proofs.StepReading.{no_left}
use Rattle.claim_lines.proofs.steps.left_step.Goals as goal

pub returns-in_default : goal.returns-in_default
returns-in_default c = no_left c.args.header.now.quiver c.args.tokens _ (λ a j is e. c.in_default.ensures (a, j) record { arrow = is.0.0; number = is.0.1 } e)
