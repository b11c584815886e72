use Rattle.std.proofs.Common.{sym, subst}
use Rattle.path_algebra.specs.Derivations.{IsNumber}
use Rattle.claim_lines.proofs.StepReading.{no_relation}
use Rattle.claim_lines.proofs.steps.relation_step.Goals as goal

pub returns-in_default : goal.returns-in_default
returns-in_default c = no_relation c.args.header.now.quiver c.args.tokens _ (λ r is e. c.in_default.ensures r (subst (λ k. IsNumber k r) (sym c.len.ensures) is.0) e)
