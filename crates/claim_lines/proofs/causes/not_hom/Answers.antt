use Rattle.std.proofs.Common.{◌∷◌, codes}
use Rattle.claim_lines.proofs.EndReading.{none_why}
use Rattle.claim_lines.proofs.NumberReading.{tail_is}
use Rattle.claim_lines.proofs.causes.not_hom.Goals as goal

pub returns-in_default : goal.returns-in_default
returns-in_default c = none_why c.args.header.now c.requires.few (codes "NotHom" ∷ c.args.tokens) (λ a p is e. c.in_default.ensures _ is (tail_is _ _ _ _ e))
