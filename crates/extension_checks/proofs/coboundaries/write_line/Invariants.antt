use Rattle.std.proofs.Common.{◌≡◌, ◌+◌}
use Rattle.linear_algebra.specs.BlockFamilies.{total}
use Rattle.fp_linear.specs.Slices.{AreElements}
use Rattle.alg_table.specs.TableView.{IsTable}
use Rattle.extension_checks.specs.Asking.{HoldsRows}
use Rattle.extension_checks.specs.Following.{value_dims, row_entries}
use Rattle.extension_checks.proofs.coboundaries.write_line.Given as goal

abbrev pub invariant-loop-i : goal.invariant-loop-i
invariant-loop-i l = record {
  at : l.at ≡ total l.i (value_dims l.table.header l.table.words l.b l.next);
  line : (t : IsTable l.table.header l.table.words)
      → HoldsRows l.fn.unknowns (row_entries l.table.header l.table.words l.b t l.first l.next) (total l.j (value_dims l.table.header l.table.words l.b l.first) + l.c) 1 l.at l.line;
  elements : AreElements l.table.header.field l.line;
}
