use Rattle.std.specs.Prelude.{slice_index}
use Rattle.fp_linear.specs.Meeting.{Meets}
use Rattle.module_checks.proofs.meeting.row_meets.Given as goal

abbrev pub invariant-loop-i : goal.invariant-loop-i
invariant-loop-i l = Meets l.field l.count l.i l.entries (slice_index l.row)
