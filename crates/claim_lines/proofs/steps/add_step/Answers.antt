use Rattle.claim_lines.proofs.StepReading.{no_add}
use Rattle.claim_lines.proofs.steps.add_step.Goals as goal

pub returns-in_default : goal.returns-in_default
returns-in_default c = no_add c.args.header.now.quiver c.args.tokens _ (λ j k m is e. c.in_default.ensures (j, k, m) record { first = is.0.0; nonzero = is.1.0; small = is.1.1; second = is.0.1 } e)
