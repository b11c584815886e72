use Rattle.claim_lines.proofs.ReferenceReading.{no_whole}
use Rattle.claim_lines.proofs.references.whole_reference.Goals as goal

pub returns-in_default : goal.returns-in_default
returns-in_default c = no_whole c.args.token.now c.requires (λ n. let g = c.in_default.ensures.named.1 n in cc)
