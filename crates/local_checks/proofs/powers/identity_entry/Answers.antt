use Rattle.local_checks.proofs.Images.{delta_at, delta_off}
use Rattle.local_checks.proofs.powers.identity_entry.Goals as goal

pub returns-then-i-j : goal.returns-then-i-j
returns-then-i-j c = delta_at _ _ c.if-i-j.true

pub returns-else-i-j : goal.returns-else-i-j
returns-else-i-j c = delta_off _ _ c.if-i-j.false
