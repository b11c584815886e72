use Rattle.std.proofs.Common.{ℕ, ◌<◌, ◌≤◌, ◌≡◌, ◌+◌}
use Rattle.linear_algebra.specs.Rows.{entry}
use Rattle.module_checks.proofs.column_reduced.last_row.Given as goal

abbrev pub invariant-loop-t : goal.invariant-loop-t
invariant-loop-t l = (i : ℕ) → l.matrix.row_count ≤ i + l.t → i < l.matrix.row_count → entry l.matrix.rows i l.k ≡ 0
