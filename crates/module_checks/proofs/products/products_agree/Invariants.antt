use Rattle.module_checks.specs.Products.{AgreeInRows}
use Rattle.module_checks.proofs.products.products_agree.Given as goal

abbrev pub invariant-loop-i : goal.invariant-loop-i
invariant-loop-i l = AgreeInRows l.field l.a l.b l.c l.d l.i
