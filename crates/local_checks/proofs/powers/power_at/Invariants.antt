use Rattle.std.proofs.Common.{◌≤◌, ◌+◌}
use Rattle.fp_linear.specs.Slices.{AreElements}
use Rattle.local_modules.specs.ImageChain.{IsImageAfter}
use Rattle.local_checks.specs.Standing.{standing}
use Rattle.local_checks.specs.Images.{blocks_at, NoneBefore}
use Rattle.local_checks.proofs.powers.power_at.Given as goal

abbrev pub invariant-loop-i : goal.invariant-loop-i
invariant-loop-i l = record {
  rows : AreElements l.field l.rows;
  next : AreElements l.field l.next;
  rank : l.rank + l.i ≤ l.size;
  image : IsImageAfter l.members (blocks_at l.field l.size l.width l.from l.families) l.i (standing l.field l.rank l.size l.rows);
  none : NoneBefore l.members (blocks_at l.field l.size l.width l.from l.families) l.i;
}
