use Rattle.module_checks.specs.VertexMatrices.{AreAllReduced}
use Rattle.module_checks.proofs.vertex_matrices.are_reduced.Given as goal

abbrev pub invariant-loop-v : goal.invariant-loop-v
invariant-loop-v l = AreAllReduced l.v l.matrices
