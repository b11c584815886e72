use Rattle.module_checks.specs.Products.{AgreeInRow}
use Rattle.module_checks.proofs.products.rows_agree.Given as goal

abbrev pub invariant-loop-j : goal.invariant-loop-j
invariant-loop-j l = AgreeInRow l.field l.a l.b l.c l.d l.i l.j
