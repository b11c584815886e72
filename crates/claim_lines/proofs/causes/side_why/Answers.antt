use Rattle.std.proofs.Common.{◌≡◌, true, false, ◌∷◌, codes}
use Rattle.claim_lines.proofs.EndReading.{none_why}
use Rattle.claim_lines.proofs.NumberReading.{tail_is}
use Rattle.claim_lines.proofs.causes.side_why.Goals as goal

pub returns-then-not-is_done : goal.returns-then-not-is_done
returns-then-not-is_done c = none_why c.args.header.now c.requires (codes "Side" ∷ c.args.tokens) (λ a p is e. let g : false ≡ true = c.if-not-is_done.ensures.1 (tail_is _ _ _ _ e) in cc)
