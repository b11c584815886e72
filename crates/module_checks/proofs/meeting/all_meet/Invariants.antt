use Rattle.std.proofs.Common.{ℕ, ◌<◌, []}
use Rattle.std.specs.Prelude.{slice_index, slice_index_or}
use Rattle.fp_linear.specs.Meeting.{Meets}
use Rattle.module_checks.proofs.meeting.all_meet.Given as goal

abbrev pub invariant-loop-i : goal.invariant-loop-i
invariant-loop-i l = (j : ℕ) → j < l.i → Meets l.field l.matrix.col_count l.rows l.entries (slice_index (slice_index_or l.matrix.rows j []))
