use Rattle.std.specs.Prelude.{slice_index}
use Rattle.fp_linear.specs.Slices.{IsWritten}
use Rattle.term_rows.proofs.term_matrices.copy_row.Given as goal

abbrev pub invariant-loop-c : goal.invariant-loop-c
invariant-loop-c l = IsWritten l.initial.into l.into l.start l.c (slice_index l.row)
