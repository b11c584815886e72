use Rattle.std.proofs.Common.{◌≤◌, ◌*◌}
use Rattle.fp_linear.specs.Slices.{AreElements}
use Rattle.fp_linear.specs.Meeting.{IsClearFrom}
use Rattle.module_checks.specs.Commuting.{AsksMore}
use Rattle.map_checks.specs.ArrowRows.{RowsMet}
use Rattle.map_checks.proofs.radicals.fold_rows.Given as goal

abbrev pub invariant-loop-i : goal.invariant-loop-i
invariant-loop-i l = record {
  used : l.used ≤ l.rows;
  elements : AreElements l.field l.entries;
  clear : IsClearFrom (l.used * l.unknowns) l.entries;
  more : AsksMore l.field l.unknowns l.rows l.initial.entries l.entries (RowsMet l.field l.matrix l.i);
}
