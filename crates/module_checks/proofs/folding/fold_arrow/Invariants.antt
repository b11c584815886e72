use Rattle.std.proofs.Common.{◌≤◌, ◌*◌}
use Rattle.fp_linear.specs.Slices.{AreElements}
use Rattle.fp_linear.specs.Meeting.{IsClearFrom}
use Rattle.module_checks.specs.Commuting.{AsksMore, GoesAlong}
use Rattle.module_checks.proofs.folding.fold_arrow.Given as goal

abbrev pub invariant-loop-e : goal.invariant-loop-e
invariant-loop-e l = record {
  used : l.used ≤ l.rows;
  elements : AreElements l.field l.entries;
  clear : IsClearFrom (l.used * l.unknowns) l.entries;
  more : AsksMore l.field l.unknowns l.rows l.initial.entries l.entries (GoesAlong l.field l.x l.y l.target l.source l.e);
}
