use Rattle.module_checks.specs.VertexMatrices.{AreUnitProducts}
use Rattle.module_checks.proofs.zero_products.are_unit_products.Given as goal

abbrev pub invariant-loop-v : goal.invariant-loop-v
invariant-loop-v l = AreUnitProducts l.field l.v l.first l.second
