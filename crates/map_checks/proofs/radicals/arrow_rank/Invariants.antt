use Rattle.std.proofs.Common.{◌≤◌, ◌*◌}
use Rattle.fp_linear.specs.Slices.{AreElements}
use Rattle.fp_linear.specs.Meeting.{IsClearFrom}
use Rattle.module_types.specs.Readings.{read}
use Rattle.map_checks.specs.ArrowRows.{AskArrows}
use Rattle.map_checks.proofs.radicals.arrow_rank.Given as goal

abbrev pub invariant-loop-a : goal.invariant-loop-a
invariant-loop-a l = record {
  used : l.used ≤ l.rows;
  elements : AreElements l.header.field l.entries;
  clear : IsClearFrom (l.used * l.unknowns) l.entries;
  asked : AskArrows (read l.header l.x) l.vertex l.unknowns l.rows l.a l.entries;
}
