use Rattle.std.proofs.Common.{ℕ, ◌≡◌, ◌<◌, length, get_or, cond, ltb}
use Rattle.quiver_paths.proofs.counting.trivial_counts.Given as goal

abbrev pub invariant-loop-v : goal.invariant-loop-v
invariant-loop-v l = (length l.counts ≡ 32) × ((k : ℕ) → k < 32 → get_or l.counts k 0 ≡ cond (ltb k l.v) 1 0)
