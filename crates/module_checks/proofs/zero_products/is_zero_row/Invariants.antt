use Rattle.module_checks.specs.VertexMatrices.{IsZeroInProductRow}
use Rattle.module_checks.proofs.zero_products.is_zero_row.Given as goal

abbrev pub invariant-loop-j : goal.invariant-loop-j
invariant-loop-j l = IsZeroInProductRow l.field l.a l.b l.i l.j
