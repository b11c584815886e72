use Rattle.std.proofs.Common.{◌≤◌, ◌*◌}
use Rattle.fp_linear.specs.Slices.{AreElements}
use Rattle.fp_linear.specs.Meeting.{IsClearFrom}
use Rattle.module_checks.specs.Commuting.{AsksMore}
use Rattle.module_checks.specs.PathImages.{ImagesMet}
use Rattle.module_checks.proofs.images.fold_images.Given as goal

abbrev pub invariant-loop-r : goal.invariant-loop-r
invariant-loop-r l = record {
  used : l.used ≤ l.rows;
  elements : AreElements l.field l.entries;
  clear : IsClearFrom (l.used * l.unknowns) l.entries;
  more : AsksMore l.field l.unknowns l.rows l.initial.entries l.entries (ImagesMet l.field l.unknowns l.r l.images l.source l.matrix l.first);
}
