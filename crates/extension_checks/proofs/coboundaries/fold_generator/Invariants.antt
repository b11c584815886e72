use Rattle.std.proofs.Common.{◌+◌}
use Rattle.linear_algebra.specs.BlockFamilies.{total}
use Rattle.fp_linear.specs.Slices.{AreElements}
use Rattle.alg_table.specs.TableView.{IsTable}
use Rattle.extension_checks.specs.Asking.{AreTaken, AskRows}
use Rattle.extension_checks.specs.Following.{value_dims, row_entries}
use Rattle.extension_checks.proofs.coboundaries.fold_generator.Given as goal

abbrev pub invariant-loop-c : goal.invariant-loop-c
invariant-loop-c l = record {
  taken : AreTaken l.table.header.field l.unknowns 1025 l.used l.entries;
  asked : (t : IsTable l.table.header l.table.words)
      → AskRows l.table.header.field l.unknowns 1025 l.initial.entries (row_entries l.table.header l.table.words l.b t l.first l.next) (total l.j (value_dims l.table.header l.table.words l.b l.first))
      → AskRows l.table.header.field l.unknowns 1025 l.entries (row_entries l.table.header l.table.words l.b t l.first l.next) (total l.j (value_dims l.table.header l.table.words l.b l.first) + l.c);
  elements : AreElements l.table.header.field l.line;
}
