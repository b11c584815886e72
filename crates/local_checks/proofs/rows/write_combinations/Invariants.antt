use Rattle.std.proofs.Common.{◌*◌}
use Rattle.linear_algebra.specs.Rows.{rows_of, product}
use Rattle.fp_linear.specs.Slices.{AreElements, IsWritten}
use Rattle.local_checks.specs.Rows.{row_entry}
use Rattle.local_checks.proofs.rows.write_combinations.Given as goal

abbrev pub invariant-loop-i : goal.invariant-loop-i
invariant-loop-i l = record {
  written : IsWritten l.initial.rows l.rows 0 (l.i * l.cols) (row_entry l.cols (product l.fn.coordinates.field l.cols l.fn.coordinates.rows (rows_of l.fn.coordinates.col_count l.cols l.basis)));
  elements : AreElements l.fn.coordinates.field l.rows;
}
