use Rattle.claim_lines.proofs.StepReading.{no_right}
use Rattle.claim_lines.proofs.steps.right_step.Goals as goal

pub returns-in_default : goal.returns-in_default
returns-in_default c = no_right c.args.header.now.quiver c.args.tokens _ (λ j a is e. c.in_default.ensures (j, a) record { arrow = is.0.1; number = is.0.0 } e)
