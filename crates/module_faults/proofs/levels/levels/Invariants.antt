use Rattle.std.proofs.Common.{◌≡◌, ◌≤◌, ◌*◌, length}
use Rattle.fp_linear.specs.Slices.{AreElements}
use Rattle.fp_linear.specs.Meeting.{IsClearFrom}
use Rattle.module_types.specs.Readings.{read}
use Rattle.module_checks.specs.PathImages.{HoldPaths}
use Rattle.module_faults.proofs.LevelRows.{AreLevels}
use Rattle.module_faults.proofs.levels.levels.Given as goal

abbrev pub invariant-loop-k : goal.invariant-loop-k
invariant-loop-k l = record {
  few : l.count ≤ l.rows;
  elements : AreElements l.header.field l.images;
  clear : IsClearFrom (l.count * l.unknowns) l.images;
  held : HoldPaths (read l.header l.m) l.k l.unknowns l.rows l.images;
  counted : length l.levels.items ≡ l.k;
  levels : AreLevels (read l.header l.m) l.unknowns l.levels.items;
}
