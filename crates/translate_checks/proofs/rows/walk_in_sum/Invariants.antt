use Rattle.fp_linear.specs.Slices.{AreElements}
use Rattle.alg_table.specs.TableView.{IsTable}
use Rattle.module_checks.specs.RowWalks.{IsMovedBy}
use Rattle.translate_checks.specs.Across.{sum_in}
use Rattle.translate_checks.proofs.rows.walk_in_sum.Given as goal

abbrev pub invariant-loop-n : goal.invariant-loop-n
invariant-loop-n l = record {
  moved : (t : IsTable l.table.header l.table.words) → IsMovedBy (sum_in l.table.header l.table.words t l.side l.vertices) l.side l.n l.arrows l.initial.row l.row;
  elements : AreElements l.table.header.field l.row;
}
