use Rattle.module_checks.specs.VertexMatrices.{IsUnitInProductRow}
use Rattle.module_checks.proofs.zero_products.is_unit_product_row.Given as goal

abbrev pub invariant-loop-j : goal.invariant-loop-j
invariant-loop-j l = IsUnitInProductRow l.field l.a l.b l.i l.j
