use Rattle.std.proofs.Common.{◌≡◌, ◌<◌}
use Rattle.std.specs.Prelude.{slice_index}
use Rattle.linear_algebra.specs.Field.{order}
use Rattle.fp_linear.specs.Meeting.{dot}
use Rattle.module_checks.proofs.meeting.dot_of.Given as goal

abbrev pub invariant-loop-t : goal.invariant-loop-t
invariant-loop-t l = record { sum : l.sum ≡ dot l.field l.t l.entries l.start (slice_index l.row); small : l.sum < order l.field }
