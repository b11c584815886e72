use Rattle.linear_algebra.specs.BlockFamilies.{total}
use Rattle.fp_linear.specs.Slices.{AreElements}
use Rattle.alg_table.specs.TableView.{IsTable}
use Rattle.extension_checks.specs.Asking.{AreTaken, AskRows}
use Rattle.extension_checks.specs.Following.{value_dims, column_entries}
use Rattle.extension_checks.proofs.cocycles.cocycle_rank.Given as goal

abbrev pub invariant-loop-i : goal.invariant-loop-i
invariant-loop-i l = record {
  taken : AreTaken l.table.header.field l.unknowns 1025 l.used l.entries;
  asked : (t : IsTable l.table.header l.table.words)
      → AskRows l.table.header.field l.unknowns 1025 l.entries (column_entries l.table.header l.table.words l.b t l.first l.next) (total l.i (value_dims l.table.header l.table.words l.b l.next));
  elements : AreElements l.table.header.field l.block;
}
