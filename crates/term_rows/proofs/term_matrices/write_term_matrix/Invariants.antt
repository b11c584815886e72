use Rattle.std.proofs.Common.{◌≡◌}
use Rattle.linear_algebra.specs.BlockFamilies.{total}
use Rattle.fp_linear.specs.Slices.{AreElements}
use Rattle.alg_table.specs.TableView.{IsTable}
use Rattle.claim_conditions.specs.Terms.{vertices_at}
use Rattle.term_rows.specs.RowSteps.{part_dim}
use Rattle.term_rows.specs.TermCells.{FirstRows, matrix_in}
use Rattle.term_rows.proofs.term_matrices.write_term_matrix.Given as goal

abbrev pub invariant-loop-j : goal.invariant-loop-j
invariant-loop-j l = record {
  at : l.at ≡ total l.j (part_dim l.table.words l.a.side (vertices_at l.terms l.k) l.w);
  rows : (t : IsTable l.table.header l.table.words) → FirstRows (matrix_in l.table.header l.table.words t l.a l.terms l.k l.w) l.columns l.at l.into;
  elements : AreElements l.table.header.field l.into;
}
