use Rattle.linear_algebra.specs.Field.{Gf}
use Rattle.fp_linear.specs.Slices.{AreElements, cell, copied}
use Rattle.fp_linear.specs.Products.{HasColumn}
use Rattle.fp_linear.proofs.blocks.put_column.Given as goal

abbrev pub invariant-loop-j : goal.invariant-loop-j
invariant-loop-j l = record {
  column : HasColumn l.width l.j l.column (copied l.from l.source) (cell l.width l.initial.target) (cell l.width l.target);
  elements : (q : Gf) → AreElements q l.source → AreElements q l.initial.target → AreElements q l.target;
}
