use Rattle.module_checks.specs.VertexMatrices.{AreZeroProducts}
use Rattle.module_checks.proofs.zero_products.are_zero_products.Given as goal

abbrev pub invariant-loop-v : goal.invariant-loop-v
invariant-loop-v l = AreZeroProducts l.field l.v l.first l.second
