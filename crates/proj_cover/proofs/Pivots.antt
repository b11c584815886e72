-- The pivots of a basis of the radical at a vertex.
use Rattle.std.proofs.Common.{ℕ, ◌≡◌, List, length, get_or, sym, ap, ◌∙◌, subst}
use Rattle.std.specs.Prelude.{slice_index}
use Rattle.linear_algebra.specs.Field.{Gf}
use Rattle.linear_algebra.specs.Reduced.{pivots_of}
use Rattle.linear_algebra.specs.Rows.{IsGrid}
use Rattle.linear_algebra.specs.Typed.{as_mat}
use Rattle.fp_linear.specs.Matrix.{PlainMatrix}
use Rattle.row_spaces.proofs.PivotEntries.{pivots_read, pivots_count}
use Rattle.representations.specs.Quiver.{Quiver}
use Rattle.representations.specs.Rep.{Rep}
use Rattle.representations.specs.RadicalModule.{arrow_rows}
use Rattle.projectives.specs.Canonical.{is_among, is_pivot}
use Rattle.projectives.proofs.KernelCovers.{is_pivot-of}
use Rattle.module_operations.specs.VertexSpaces.{IsFormOf}
use Rattle.proj_cover.proofs.Columns.{among_same}

pub form_width : {q : Gf} {Q : Quiver} (X : Rep q Q) (w : ℕ) (b : PlainMatrix) → IsFormOf (arrow_rows X w) b → b.col_count ≡ X.dim w
form_width X w b f = ap (λ (m : PlainMatrix). m.col_count) f.shape

pub pivots_found : {q : Gf} {Q : Quiver} (X : Rep q Q) (w : ℕ) (b : PlainMatrix) (ps : List ℕ) → IsFormOf (arrow_rows X w) b → ps ≡ pivots_of b.rows → (c : ℕ) → is_pivot X w c ≡ is_among (length ps) (slice_index ps) c
pivots_found {q} X w b ps f e c =
    is_pivot-of X w (as_mat q b.row_count (X.dim w) b.rows) f.form.reduced.0 f.form.reduced.1 f.form.spans f.form.spanned c
    ∙ among_same b.row_count f.form.reduced.0 (slice_index ps) c (λ i l. sym (ap (λ xs. get_or xs i 0) e ∙ pivots_read q b.row_count (X.dim w) b.rows grid f.form.reduced.0 f.form.reduced.1 i l))
    ∙ ap (λ n. is_among n (slice_index ps) c) (sym (ap length e ∙ pivots_count q b.row_count (X.dim w) b.rows grid f.form.reduced.0 f.form.reduced.1))
  where
    grid : IsGrid q b.row_count (X.dim w) b.rows
    grid = subst (λ (m : PlainMatrix). IsGrid m.field m.row_count m.col_count m.rows) f.shape f.matrix.grid
