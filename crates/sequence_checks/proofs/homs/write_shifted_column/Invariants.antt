use Rattle.fp_linear.specs.Slices.{AreElements}
use Rattle.sequence_checks.specs.Maps.{IsShiftedColumn}
use Rattle.sequence_checks.proofs.homs.write_shifted_column.Given as goal

abbrev pub invariant-loop-i : goal.invariant-loop-i
invariant-loop-i l = record { column : IsShiftedColumn l.a l.j l.start l.i l.into; elements : AreElements l.a.field l.into }
