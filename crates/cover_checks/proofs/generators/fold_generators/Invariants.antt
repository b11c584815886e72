use Rattle.std.proofs.Common.{◌≤◌, ◌*◌}
use Rattle.fp_linear.specs.Slices.{AreElements}
use Rattle.fp_linear.specs.Meeting.{IsClearFrom}
use Rattle.alg_table.specs.TableView.{IsTable}
use Rattle.module_types.specs.Readings.{read}
use Rattle.module_checks.specs.Commuting.{AsksMore}
use Rattle.resolution_checks.specs.Steps.{words_of_side}
use Rattle.cover_checks.specs.Folds.{IsBasisAt, LieBelow, GeneratorsKilled}
use Rattle.cover_checks.proofs.generators.fold_generators.Given as goal

abbrev pub invariant-loop-j : goal.invariant-loop-j
invariant-loop-j l = record {
  used : l.used ≤ l.rows;
  elements : AreElements l.field l.entries;
  clear : IsClearFrom (l.used * l.size) l.entries;
  folded : (t : IsTable l.table.header l.table.words)
      → IsBasisAt (words_of_side l.table.header l.table.words t l.a l.terms) (read l.table.header l.a) l.terms l.k l.w l.size l.width l.basis l.places
      → LieBelow (words_of_side l.table.header l.table.words t l.a l.terms) (read l.table.header l.a) l.terms l.k l.w l.j
      × AsksMore l.field l.size l.rows l.initial.entries l.entries (GeneratorsKilled (words_of_side l.table.header l.table.words t l.a l.terms) (read l.table.header l.a) l.terms l.k l.w l.j);
}
