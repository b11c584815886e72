use Rattle.std.proofs.Common.{◌∷◌, codes}
use Rattle.claim_lines.proofs.EndReading.{none_why}
use Rattle.claim_lines.proofs.NumberReading.{tail_is}
use Rattle.claim_lines.proofs.causes.bound_fails.Goals as goal

pub returns-in_default : goal.returns-in_default
returns-in_default c =
    let none = rw c.in_default.is at c.in_ok-path.ensures in
    none_why c.args.header.now c.requires.few (codes "BoundFails" ∷ c.args.tokens) (λ a p is e. none p is (tail_is _ _ _ _ e))
