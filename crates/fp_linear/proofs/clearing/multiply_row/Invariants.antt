use Rattle.std.specs.Prelude.{length}
use Rattle.linear_algebra.specs.Rows.{rows_of}
use Rattle.fp_linear.specs.Slices.{AreElements}
use Rattle.fp_linear.specs.Elimination.{IsProductOf}
use Rattle.fp_linear.proofs.clearing.multiply_row.Given as goal

abbrev pub invariant-loop-i : goal.invariant-loop-i
invariant-loop-i l = record {
  product : IsProductOf l.field (length l.initial.out) l.i l.x (rows_of (length l.x) (length l.initial.out) l.rows) l.out;
  elements : AreElements l.field l.out;
}
