use Rattle.std.proofs.Common.{ℕ, get_or, ◌+◌}
use Rattle.linear_algebra.specs.Field.{Gf}
use Rattle.linear_algebra.specs.RowSolutions.{IsReadFrom}
use Rattle.fp_linear.specs.Slices.{AreElements, cell}
use Rattle.fp_linear.proofs.matrix.solve.read_solution.Given as goal

abbrev pub invariant-loop-i : goal.invariant-loop-i
invariant-loop-i l = record {
  read : IsReadFrom l.rows l.count l.i (λ (a : ℕ). get_or l.pivots a 0) (cell (l.rows + l.count) l.wide) (cell l.rows l.entries);
  elements : (q : Gf) → AreElements q l.wide → AreElements q l.entries;
}
