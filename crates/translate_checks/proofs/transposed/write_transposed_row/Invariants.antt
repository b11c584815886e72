use Rattle.std.proofs.Common.{◌≡◌}
use Rattle.linear_algebra.specs.BlockFamilies.{total}
use Rattle.fp_linear.specs.Slices.{AreElements}
use Rattle.alg_table.specs.TableView.{IsTable}
use Rattle.projectives.specs.CanonicalCover.{vertex_in}
use Rattle.module_types.specs.Algebras.{other_side}
use Rattle.term_rows.specs.RowSteps.{part_dim}
use Rattle.translate_checks.specs.Across.{IsPresentation}
use Rattle.translate_checks.proofs.AcrossRows.{HasParts}
use Rattle.translate_checks.proofs.transposed.write_transposed_row.Given as goal

abbrev pub invariant-loop-i : goal.invariant-loop-i
invariant-loop-i l = record {
  to : l.to ≡ total l.i (part_dim l.table.words (other_side l.side) l.syzygy.vertices (vertex_in l.cover l.fn.j));
  parts : (t : IsTable l.table.header l.table.words) (p : IsPresentation l.table.words l.table.header l.side l.cover l.syzygy) → HasParts l.table.header l.table.words t l.side l.cover l.syzygy p.term l.fn.j l.i l.row;
  elements : AreElements l.table.header.field l.row;
}
