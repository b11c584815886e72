use Rattle.std.proofs.Common.{◌≡◌, ℕ, ◌<◌}
use Rattle.header_text.specs.Spelling.{vertex_name}
use Rattle.header_text.proofs.tokens.vertex_place.Given as goal

abbrev pub invariant-loop-v : goal.invariant-loop-v
invariant-loop-v l = (k : ℕ) → k < l.v → l.name ≡ vertex_name l.quiver k → ⊥
