use Rattle.std.proofs.Common.{◌+◌}
use Rattle.linear_algebra.specs.BlockFamilies.{total}
use Rattle.fp_linear.specs.Slices.{AreElements}
use Rattle.alg_table.specs.TableView.{IsTable}
use Rattle.extension_checks.specs.Asking.{HoldsRows}
use Rattle.extension_checks.specs.Following.{value_dims, column_entries}
use Rattle.extension_checks.proofs.cocycles.write_columns.Given as goal

abbrev pub invariant-loop-c : goal.invariant-loop-c
invariant-loop-c l = record {
  columns : (t : IsTable l.table.header l.table.words)
      → HoldsRows l.unknowns (column_entries l.table.header l.table.words l.b t l.first l.next) (total l.i (value_dims l.table.header l.table.words l.b l.next)) l.height l.at l.initial.block
      → HoldsRows l.unknowns (column_entries l.table.header l.table.words l.b t l.first l.next) (total l.i (value_dims l.table.header l.table.words l.b l.next)) l.height (l.at + l.c) l.block;
  elements : AreElements l.table.header.field l.block;
}
