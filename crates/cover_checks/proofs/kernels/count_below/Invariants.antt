use Rattle.std.proofs.Common.{ℕ, ◌<◌, get_or}
use Rattle.cover_checks.proofs.kernels.count_below.Given as goal

abbrev pub invariant-loop-i : goal.invariant-loop-i
invariant-loop-i l = (k : ℕ) → k < l.i → get_or l.pivots k 0 < l.bound
