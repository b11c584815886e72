use Rattle.std.proofs.Common.{ℕ, ◌<◌, ◌≡◌}
use Rattle.linear_algebra.specs.Rows.{entry}
use Rattle.linear_algebra.specs.Matrix.{delta}
use Rattle.module_checks.proofs.column_reduced.is_unit_row.Given as goal

abbrev pub invariant-loop-j : goal.invariant-loop-j
invariant-loop-j l = (i : ℕ) → i < l.j → entry l.matrix.rows l.p i ≡ delta l.k i
