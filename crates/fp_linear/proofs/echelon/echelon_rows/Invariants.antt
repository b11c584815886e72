use Rattle.std.proofs.Common.{get_or}
use Rattle.linear_algebra.specs.Rows.{rows_of, SameSpan}
use Rattle.fp_linear.specs.Slices.{AreElements, cell}
use Rattle.fp_linear.specs.Elimination.{IsPartlyReduced}
use Rattle.fp_linear.proofs.echelon.echelon_rows.Given as goal

abbrev pub invariant-loop-column : goal.invariant-loop-column
invariant-loop-column l = record {
  elements : AreElements l.field l.entries;
  partly : IsPartlyReduced l.rows l.column l.rank (cell l.cols l.entries) (λ i. get_or l.pivots i 0);
  span : SameSpan l.field l.cols (rows_of l.rows l.cols l.initial.entries) (rows_of l.rows l.cols l.entries);
}
