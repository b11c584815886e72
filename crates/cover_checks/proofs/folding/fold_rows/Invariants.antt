use Rattle.std.proofs.Common.{◌≤◌, ◌*◌}
use Rattle.fp_linear.specs.Slices.{AreElements}
use Rattle.fp_linear.specs.Meeting.{IsClearFrom}
use Rattle.alg_table.specs.TableView.{IsTable}
use Rattle.module_types.specs.Readings.{read}
use Rattle.module_checks.specs.Commuting.{AsksMore}
use Rattle.resolution_checks.specs.Steps.{words_of_side}
use Rattle.cover_checks.specs.Folds.{HaveBases, RowsStay, ImagesKilled}
use Rattle.cover_checks.proofs.folding.fold_rows.Given as goal

abbrev pub invariant-loop-i : goal.invariant-loop-i
invariant-loop-i l = record {
  used : l.used ≤ l.rows;
  elements : AreElements l.field l.entries;
  clear : IsClearFrom (l.used * l.size) l.entries;
  folded : (t : IsTable l.table.header l.table.words)
      → HaveBases (words_of_side l.table.header l.table.words t l.a l.terms) (read l.table.header l.a) l.terms l.k l.arrow l.count l.from l.other l.size l.width l.basis l.places
      → RowsStay (words_of_side l.table.header l.table.words t l.a l.terms) (read l.table.header l.a) l.terms l.k l.arrow l.i
      × AsksMore l.field l.size l.rows l.initial.entries l.entries (ImagesKilled (words_of_side l.table.header l.table.words t l.a l.terms) (read l.table.header l.a) l.terms l.k l.arrow l.i);
}
