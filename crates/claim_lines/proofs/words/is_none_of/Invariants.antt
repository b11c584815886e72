use Rattle.std.proofs.Common.{◌≡◌, ℕ, ◌<◌, get_or}
use Rattle.quiver_paths.specs.declared.Path.{Path}
use Rattle.claim_lines.proofs.words.is_none_of.Given as goal

abbrev pub invariant-loop-other : goal.invariant-loop-other
invariant-loop-other l = (k : ℕ) (d : Path) → k < l.other-index → get_or l.paths k d ≡ l.path → ⊥
