use Rattle.std.proofs.Common.{◌∷◌, codes}
use Rattle.claim_lines.proofs.HeadReading.{none_is}
use Rattle.claim_lines.proofs.NumberReading.{tail_is}
use Rattle.claim_lines.proofs.translate_heads.transpose_head.Goals as goal

pub returns-in_default : goal.returns-in_default
returns-in_default c = none_is _ _ _ record { few_claims = c.ranges.earlier.fits; few_modules = c.ranges.modules.fits; few_maps = c.ranges.maps.fits } (codes "transpose" ∷ c.args.tokens) (λ is e. c.in_default.ensures ((_, _), _) ((is.1, is.2), is.3) (tail_is _ _ _ _ e))
