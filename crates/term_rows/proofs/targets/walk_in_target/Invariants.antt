use Rattle.fp_linear.specs.Slices.{AreElements}
use Rattle.alg_table.specs.TableView.{IsTable}
use Rattle.bound_tables.specs.TableSides.{table_sides}
use Rattle.module_types.specs.Algebras.{sided_words}
use Rattle.module_types.specs.Readings.{read}
use Rattle.claim_conditions.specs.Terms.{goes_to}
use Rattle.module_checks.specs.RowWalks.{IsMovedBy}
use Rattle.term_rows.proofs.targets.walk_in_target.Given as goal

abbrev pub invariant-loop-n : goal.invariant-loop-n
invariant-loop-n l = record {
  moved : (t : IsTable l.table.header l.table.words)
      → IsMovedBy (goes_to (sided_words l.a.side (table_sides l.table.header l.table.words t)).words (read l.table.header l.a) l.terms l.k) l.a.side l.n l.arrows l.initial.row l.row;
  elements : AreElements l.table.header.field l.row;
}
