use Rattle.std.proofs.Common.{◌≤◌, ◌*◌}
use Rattle.fp_linear.specs.Slices.{AreElements}
use Rattle.fp_linear.specs.Meeting.{IsClearFrom}
use Rattle.module_types.specs.Readings.{read}
use Rattle.module_checks.specs.PathImages.{AskImages}
use Rattle.module_checks.proofs.long_paths.next_images.Given as goal

abbrev pub invariant-loop-a : goal.invariant-loop-a
invariant-loop-a l = record {
  used : l.used ≤ l.rows;
  elements : AreElements l.header.field l.entries;
  clear : IsClearFrom (l.used * l.unknowns) l.entries;
  asked : AskImages (read l.header l.m) l.unknowns l.rows l.count l.a l.images l.entries;
}
