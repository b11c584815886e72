use Rattle.std.proofs.Common.{◌≡◌, ◌≤◌, ◌<◌, ℕ}
use Rattle.fp_linear.specs.Slices.{cell}
use Rattle.fp_linear.proofs.echelon.find_pivot.Given as goal

abbrev pub invariant-loop-i : goal.invariant-loop-i
invariant-loop-i l = (k : ℕ) → l.rank ≤ k → k < l.i → cell l.cols l.entries k l.column ≡ 0
