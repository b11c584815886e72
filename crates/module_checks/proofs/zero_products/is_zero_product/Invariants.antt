use Rattle.module_checks.specs.VertexMatrices.{IsZeroProduct}
use Rattle.module_checks.proofs.zero_products.is_zero_product.Given as goal

abbrev pub invariant-loop-i : goal.invariant-loop-i
invariant-loop-i l = IsZeroProduct l.field l.a l.b l.i
