use Rattle.std.proofs.Common.{◌≤◌, ◌*◌}
use Rattle.fp_linear.specs.Slices.{AreElements}
use Rattle.fp_linear.specs.Meeting.{IsClearFrom}
use Rattle.alg_table.specs.TableView.{IsTable}
use Rattle.module_types.specs.Readings.{read}
use Rattle.map_checks.specs.ArrowRows.{AskArrows}
use Rattle.resolution_checks.specs.Steps.{words_of_side}
use Rattle.cover_checks.specs.Covers.{covered_rep}
use Rattle.cover_checks.specs.Folds.{IsBasisAt, StayBelow}
use Rattle.cover_checks.proofs.folding.fold_radical.Given as goal

abbrev pub invariant-loop-arrow : goal.invariant-loop-arrow
invariant-loop-arrow l = record {
  used : l.used ≤ l.rows;
  elements : AreElements l.field l.entries;
  clear : IsClearFrom (l.used * l.size) l.entries;
  folded : (t : IsTable l.table.header l.table.words)
      → IsBasisAt (words_of_side l.table.header l.table.words t l.a l.terms) (read l.table.header l.a) l.terms l.k l.w l.size l.width l.basis l.places
      → StayBelow (words_of_side l.table.header l.table.words t l.a l.terms) (read l.table.header l.a) l.terms l.k l.w l.arrow
      × AskArrows (covered_rep (words_of_side l.table.header l.table.words t l.a l.terms) (read l.table.header l.a) l.terms l.k) l.w l.size l.rows l.arrow l.entries;
}
