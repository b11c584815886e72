use Rattle.fp_linear.specs.Slices.{AreElements, cell}
use Rattle.fp_linear.specs.Elimination.{IsClearedBelow}
use Rattle.fp_linear.proofs.echelon.clear_column.Given as goal

abbrev pub invariant-loop-i : goal.invariant-loop-i
invariant-loop-i l = record {
  cleared : IsClearedBelow l.field l.rows l.cols l.row l.column l.i (cell l.cols l.initial.entries) (cell l.cols l.entries);
  elements : AreElements l.field l.entries;
}
