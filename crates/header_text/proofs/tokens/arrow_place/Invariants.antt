use Rattle.std.proofs.Common.{◌≡◌, ℕ, ◌<◌}
use Rattle.header_text.specs.Spelling.{arrow_name}
use Rattle.header_text.proofs.tokens.arrow_place.Given as goal

abbrev pub invariant-loop-a : goal.invariant-loop-a
invariant-loop-a l = (k : ℕ) → k < l.a → l.name ≡ arrow_name l.quiver k → ⊥
