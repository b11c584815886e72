use Rattle.claim_lines.proofs.claims.next_part_claim.Goals as goal

pub returns-in_default : goal.returns-in_default
returns-in_default c = λ x rest is e. c.in_default.ensures (x.module, x.local) rest (is.is_module, is.named) e
