use Rattle.std.proofs.Common.{◌≤◌}
use Rattle.linear_algebra.specs.Rank.{HasRightInverse}
use Rattle.fp_linear.specs.Slices.{AreElements}
use Rattle.local_modules.specs.ImageChain.{IsImageOf}
use Rattle.local_checks.specs.Standing.{standing}
use Rattle.local_checks.specs.Images.{blocks_at}
use Rattle.local_checks.proofs.powers.images_of.Given as goal

abbrev pub invariant-loop-j : goal.invariant-loop-j
invariant-loop-j l = record {
  elements : AreElements l.field l.next;
  rank : l.rank ≤ l.size;
  independent : HasRightInverse (standing l.field l.rank l.size l.next);
  images : IsImageOf l.j (blocks_at l.field l.size l.width l.from l.families) (standing l.field l.count l.size l.rows) (standing l.field l.rank l.size l.next);
}
