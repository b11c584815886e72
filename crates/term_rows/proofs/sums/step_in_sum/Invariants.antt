use Rattle.std.proofs.Common.{◌≡◌, get_or}
use Rattle.linear_algebra.specs.BlockFamilies.{total}
use Rattle.fp_linear.specs.Slices.{AreElements}
use Rattle.alg_table.specs.TableView.{IsTable}
use Rattle.projectives.specs.CanonicalCover.{vertex_in}
use Rattle.bound_tables.specs.TableSides.{table_sides}
use Rattle.module_types.specs.Algebras.{sided_words}
use Rattle.term_rows.specs.RowSteps.{IsSumStepUpTo, part_dim}
use Rattle.term_rows.proofs.sums.step_in_sum.Given as goal

abbrev pub invariant-loop-j : goal.invariant-loop-j
invariant-loop-j l = record {
  from : l.from ≡ total l.j (part_dim l.table.words l.fn.side l.vertices l.source);
  to : l.to ≡ total l.j (part_dim l.table.words l.fn.side l.vertices l.target);
  done : (t : IsTable l.table.header l.table.words) → IsSumStepUpTo (sided_words l.fn.side (table_sides l.table.header l.table.words t)).words (vertex_in l.vertices) l.arrow l.j l.row l.next;
  elements : AreElements l.table.header.field l.next;
}
