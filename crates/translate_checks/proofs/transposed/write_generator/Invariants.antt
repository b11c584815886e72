use Rattle.std.proofs.Common.{◌+◌}
use Rattle.fp_linear.specs.Slices.{AreElements}
use Rattle.alg_table.specs.TableView.{IsTable}
use Rattle.term_rows.specs.TermCells.{FirstRows}
use Rattle.translate_checks.specs.Across.{transposed_in}
use Rattle.translate_checks.proofs.transposed.write_generator.Given as goal

abbrev pub invariant-loop-i : goal.invariant-loop-i
invariant-loop-i l = record {
  rows : (t : IsTable l.table.header l.table.words) → FirstRows (transposed_in l.table.header l.table.words t l.side l.cover l.syzygy l.fn.w) l.columns l.at l.initial.into
      → FirstRows (transposed_in l.table.header l.table.words t l.side l.cover l.syzygy l.fn.w) l.columns (l.at + l.i) l.into;
  elements : AreElements l.table.header.field l.into;
}
