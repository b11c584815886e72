use Rattle.linear_algebra.specs.Field.{Gf}
use Rattle.fp_linear.specs.Slices.{AreElements, cell}
use Rattle.fp_linear.specs.Products.{HasBlock}
use Rattle.fp_linear.proofs.blocks.copy_block.Given as goal

abbrev pub invariant-loop-i : goal.invariant-loop-i
invariant-loop-i l = record {
  block : HasBlock l.width l.count l.i l.fn.corner.first l.fn.corner.from (cell l.fn.corner.width l.source) (cell l.width l.initial.target) (cell l.width l.target);
  elements : (q : Gf) → AreElements q l.source → AreElements q l.initial.target → AreElements q l.target;
}
