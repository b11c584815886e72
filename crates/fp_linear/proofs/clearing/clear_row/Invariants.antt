use Rattle.std.specs.Prelude.{length}
use Rattle.linear_algebra.specs.Rows.{rows_of}
use Rattle.fp_linear.specs.Slices.{AreElements}
use Rattle.fp_linear.specs.Elimination.{IsClearedOf}
use Rattle.fp_linear.proofs.clearing.clear_row.Given as goal

abbrev pub invariant-loop-i : goal.invariant-loop-i
invariant-loop-i l = record {
  cleared : IsClearedOf l.field (length l.initial.x) l.i (rows_of (length l.pivots) (length l.initial.x) l.rows) l.initial.x l.x;
  elements : AreElements l.field l.x;
}
