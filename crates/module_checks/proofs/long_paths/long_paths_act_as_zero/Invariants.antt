use Rattle.std.proofs.Common.{◌≤◌, ◌*◌}
use Rattle.fp_linear.specs.Slices.{AreElements}
use Rattle.fp_linear.specs.Meeting.{IsClearFrom}
use Rattle.module_types.specs.Readings.{read}
use Rattle.module_checks.specs.PathImages.{HoldPaths}
use Rattle.module_checks.proofs.long_paths.long_paths_act_as_zero.Given as goal

abbrev pub invariant-loop-k : goal.invariant-loop-k
invariant-loop-k l = record {
  few : l.count ≤ l.rows;
  elements : AreElements l.header.field l.images;
  clear : IsClearFrom (l.count * l.unknowns) l.images;
  held : HoldPaths (read l.header l.m) l.k l.unknowns l.rows l.images;
}
