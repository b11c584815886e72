use Rattle.std.proofs.Common.{◌≤◌, ◌*◌}
use Rattle.fp_linear.specs.Slices.{AreElements}
use Rattle.module_types.specs.Algebras.{algebra_at}
use Rattle.module_types.specs.Readings.{rep_of}
use Rattle.module_checks.specs.Commuting.{AskUpTo}
use Rattle.fp_linear.specs.Meeting.{IsClearFrom}
use Rattle.module_checks.proofs.homs.equations_rank.Given as goal

abbrev pub invariant-loop-a : goal.invariant-loop-a
invariant-loop-a l = record {
  used : l.used ≤ l.rows;
  elements : AreElements l.header.field l.entries;
  clear : IsClearFrom (l.used * l.unknowns) l.entries;
  asked : AskUpTo (rep_of l.header.field (algebra_at l.side l.header).quiver l.x) (rep_of l.header.field (algebra_at l.side l.header).quiver l.y) l.unknowns l.rows l.a l.entries;
}
