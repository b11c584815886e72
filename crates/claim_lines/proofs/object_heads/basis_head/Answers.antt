use Rattle.std.proofs.Common.{◌≡◌, true, false, ◌∷◌, codes}
use Rattle.claim_lines.proofs.HeadReading.{none_is}
use Rattle.claim_lines.proofs.NumberReading.{tail_is}
use Rattle.claim_lines.proofs.object_heads.basis_head.Goals as goal

pub returns-then-not-is_done : goal.returns-then-not-is_done
returns-then-not-is_done c = none_is _ _ _ record { few_claims = c.ranges.earlier.fits; few_modules = c.ranges.modules.fits; few_maps = c.ranges.maps.fits } (codes "basis" ∷ c.args.tokens) (λ is e. let g : false ≡ true = c.if-not-is_done.ensures.1 (tail_is _ _ _ _ e) in cc)
