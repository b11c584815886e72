use Rattle.std.proofs.Common.{ℕ, ◌≡◌, ◌≤◌, ◌<◌}
use Rattle.linear_algebra.specs.Rows.{entry}
use Rattle.row_spaces.proofs.quotients.last_nonzero.Given as goal

abbrev pub invariant-loop-i : goal.invariant-loop-i
invariant-loop-i l = (k : ℕ) → l.i ≤ k → k < l.matrix.row_count → entry l.matrix.rows k l.column ≡ 0
