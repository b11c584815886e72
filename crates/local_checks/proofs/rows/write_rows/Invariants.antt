use Rattle.std.proofs.Common.{◌*◌}
use Rattle.fp_linear.specs.Slices.{AreElements, IsWritten}
use Rattle.local_checks.specs.Rows.{row_entry}
use Rattle.local_checks.proofs.rows.write_rows.Given as goal

abbrev pub invariant-loop-i : goal.invariant-loop-i
invariant-loop-i l = record {
  written : IsWritten l.initial.rows l.rows 0 (l.i * l.fn.matrix.col_count) (row_entry l.fn.matrix.col_count l.fn.matrix.rows);
  elements : AreElements l.fn.matrix.field l.rows;
}
