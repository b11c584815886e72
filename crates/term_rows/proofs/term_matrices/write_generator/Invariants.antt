use Rattle.std.proofs.Common.{◌+◌}
use Rattle.fp_linear.specs.Slices.{AreElements}
use Rattle.alg_table.specs.TableView.{IsTable}
use Rattle.term_rows.specs.TermCells.{FirstRows, matrix_in}
use Rattle.term_rows.proofs.term_matrices.write_generator.Given as goal

abbrev pub invariant-loop-i : goal.invariant-loop-i
invariant-loop-i l = record {
  rows : (t : IsTable l.table.header l.table.words) → FirstRows (matrix_in l.table.header l.table.words t l.a l.terms l.k l.fn.w) l.columns l.at l.initial.into
      → FirstRows (matrix_in l.table.header l.table.words t l.a l.terms l.k l.fn.w) l.columns (l.at + l.i) l.into;
  elements : AreElements l.table.header.field l.into;
}
