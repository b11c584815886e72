use Rattle.linear_algebra.specs.Field.{Gf}
use Rattle.fp_linear.specs.Slices.{AreElements, cell}
use Rattle.fp_linear.specs.Products.{HasColumns}
use Rattle.fp_linear.proofs.blocks.put_columns.Given as goal

abbrev pub invariant-loop-i : goal.invariant-loop-i
invariant-loop-i l = record {
  columns : HasColumns l.count l.first l.i (cell l.count l.source) (cell l.width l.initial.target) (cell l.width l.target);
  elements : (q : Gf) → AreElements q l.source → AreElements q l.initial.target → AreElements q l.target;
}
