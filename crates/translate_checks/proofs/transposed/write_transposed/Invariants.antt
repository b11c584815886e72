use Rattle.std.proofs.Common.{◌≡◌}
use Rattle.linear_algebra.specs.BlockFamilies.{total}
use Rattle.fp_linear.specs.Slices.{AreElements}
use Rattle.alg_table.specs.TableView.{IsTable}
use Rattle.module_types.specs.Algebras.{other_side}
use Rattle.term_rows.specs.RowSteps.{part_dim}
use Rattle.term_rows.specs.TermCells.{FirstRows}
use Rattle.translate_checks.specs.Across.{transposed_in}
use Rattle.translate_checks.proofs.transposed.write_transposed.Given as goal

abbrev pub invariant-loop-j : goal.invariant-loop-j
invariant-loop-j l = record {
  at : l.at ≡ total l.j (part_dim l.table.words (other_side l.side) l.cover l.w);
  rows : (t : IsTable l.table.header l.table.words) → FirstRows (transposed_in l.table.header l.table.words t l.side l.cover l.syzygy l.w) l.columns l.at l.into;
  elements : AreElements l.table.header.field l.into;
}
