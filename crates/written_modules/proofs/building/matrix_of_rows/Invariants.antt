use Rattle.written_modules.proofs.Rows.{HoldFirst}
use Rattle.written_modules.proofs.building.matrix_of_rows.Given as goal

abbrev pub invariant-loop-i : goal.invariant-loop-i
invariant-loop-i l = HoldFirst l.field l.cols l.i l.written l.entries.items
