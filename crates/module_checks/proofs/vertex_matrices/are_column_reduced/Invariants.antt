use Rattle.module_checks.specs.VertexMatrices.{AreAllColumnReduced}
use Rattle.module_checks.proofs.vertex_matrices.are_column_reduced.Given as goal

abbrev pub invariant-loop-v : goal.invariant-loop-v
invariant-loop-v l = AreAllColumnReduced l.v l.matrices
