use Rattle.linear_algebra.specs.Field.{Gf}
use Rattle.fp_linear.specs.Slices.{AreElements, cell}
use Rattle.fp_linear.specs.Products.{HasUnits}
use Rattle.fp_linear.proofs.blocks.put_units.Given as goal

abbrev pub invariant-loop-i : goal.invariant-loop-i
invariant-loop-i l = record {
  units : HasUnits l.rows l.from l.i (cell l.width l.initial.entries) (cell l.width l.entries);
  elements : (q : Gf) → AreElements q l.initial.entries → AreElements q l.entries;
}
