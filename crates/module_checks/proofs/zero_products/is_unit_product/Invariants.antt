use Rattle.module_checks.specs.VertexMatrices.{IsUnitProduct}
use Rattle.module_checks.proofs.zero_products.is_unit_product.Given as goal

abbrev pub invariant-loop-i : goal.invariant-loop-i
invariant-loop-i l = IsUnitProduct l.field l.a l.b l.i
