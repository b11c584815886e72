use Rattle.module_checks.specs.VertexMatrices.{HavePlaces}
use Rattle.module_checks.proofs.column_reduced.is_column_reduced.Given as goal

abbrev pub invariant-loop-k : goal.invariant-loop-k
invariant-loop-k l = HavePlaces l.matrix.row_count l.matrix.col_count l.matrix.rows l.k l.least
