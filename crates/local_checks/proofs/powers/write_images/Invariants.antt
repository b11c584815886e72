use Rattle.std.proofs.Common.{◌*◌}
use Rattle.linear_algebra.specs.Rows.{rows_of, product}
use Rattle.fp_linear.specs.Slices.{AreElements, IsWritten}
use Rattle.local_checks.specs.Rows.{row_entry}
use Rattle.local_checks.proofs.powers.write_images.Given as goal

abbrev pub invariant-loop-i : goal.invariant-loop-i
invariant-loop-i l = record {
  written : IsWritten l.initial.out l.out 0 (l.i * l.size) (row_entry l.size (product l.field l.size (rows_of l.count l.size l.rows) (rows_of l.size l.size l.block)));
  elements : AreElements l.field l.out;
}
