-- One arrow's matrix put below a basis of what came before.
use Rattle.std.proofs.Common.{ℕ, ◌<◌, ◌≤◌, ◌≡◌, ◌+◌, ◌*◌, List, ◌++◌, sym, ap, ◌∙◌, refl, arith, subst}
use Rattle.std.specs.Prelude.{slice_index_or}
use Rattle.std.proofs.Math.Nat.{mul-le-mul}
use Rattle.std.proofs.lemmas.Grind.{get_or_default_zero}
use Rattle.linear_algebra.specs.Matrix.{Mat}
use Rattle.linear_algebra.specs.Typed.{as_mat}
use Rattle.fp_linear.specs.Matrix.{PlainMatrix, plain, IsMatrix, most_entries, zero_rows}
use Rattle.quiver_paths.specs.Quiver.{arrow_count, vertex_count}
use Rattle.path_algebra.specs.declared.Header.{Header}
use Rattle.path_algebra.specs.Allowed.{IsAllowed}
use Rattle.representations.specs.Quiver.{Quiver}
use Rattle.row_spaces.specs.RowSpaces.{typed, IsRowFormOf}
use Rattle.module_types.specs.declared.Module.{Module}
use Rattle.module_types.specs.Algebras.{algebra_at}
use Rattle.module_types.specs.Readings.{dim_at, read, rows_at}
use Rattle.module_types.specs.Shapes.{IsModule}
use Rattle.module_types.proofs.Written.{dim_at-below}
use Rattle.module_checks.proofs.Sides.{arrows_at}
use Rattle.module_operations.specs.ArrowSpans.{arrow_size, arrow_family, SpansArrows}
use Rattle.module_operations.specs.VertexSpaces.{HaveForms, AreNarrow, IsFormOf}
use Rattle.module_operations.proofs.ArrowMatrices.{arrow_matrix, arrow_grid, vertices_at}
use Rattle.module_operations.proofs.ArrowSpanSteps.{SpansArrows-none, SpansArrows-more, few_spanning, arrows_form}
use Rattle.module_operations.proofs.SmallMaps.{dim_few}
use Rattle.module_operations.proofs.Diagonals.{zero_matrix}

module _ (h : Header) (a : Module) (allowed : IsAllowed h) (shape : IsModule h.field (algebra_at a.side h).quiver a) (w r : ℕ) (l : r < arrow_count h.quiver) (b m : PlainMatrix) (B : SpansArrows (read h a) w r b) (e : m ≡ slice_index_or a.matrices r m) where
  abbrev Q : Quiver
  Q = (algebra_at a.side h).quiver

  few_before : b.row_count ≤ 256
  few_before = let f = few_spanning (read h a) w r b B in let d = dim_few h.field Q a shape w in omega arith

  few_below : m.row_count ≤ 256
  few_below = let d = dim_few h.field Q a shape (Q.source r) in let c = ap (λ (m : PlainMatrix). m.row_count) (arrow_matrix h a allowed shape r l m e) in omega (arith, c)

  few_columns : b.col_count ≤ 256
  few_columns = let d = dim_few h.field Q a shape w in let c = ap (λ (m : PlainMatrix). m.col_count) B.shape in omega (arith, c)

  pub stack_rows : b.row_count + m.row_count ≤ 4294967295
  stack_rows = let x = few_before in let y = few_below in omega arith

  pub stack_size : (b.row_count + m.row_count) * b.col_count ≤ most_entries
  stack_size =
      let x = few_before in
      let y = few_below in
      let s : b.row_count + m.row_count ≤ 512 = omega arith in
      let e : (b.row_count + m.row_count) * b.col_count ≤ 512 * 256 = mul-le-mul s few_columns in
      omega (arith, e)

  pub stacked_spans : Q.target r ≡ w → (both result : PlainMatrix) → both ≡ plain b.field (b.row_count + m.row_count) b.col_count (b.rows ++ m.rows)
      → result ≡ plain both.field result.row_count both.col_count result.rows → IsMatrix result → IsRowFormOf (typed both) (as_mat both.field result.row_count both.col_count result.rows) → SpansArrows (read h a) w (r + 1) result
  stacked_spans same both result eb er kept form =
      SpansArrows-more (read h a) w r same (rows_at a.matrices r) refl (arrow_grid h a allowed shape r l m e) b m both result B (arrow_matrix h a allowed shape r l m e) eb er kept form

-- No row yet.
pub no_arrows : (h : Header) (a : Module) → IsModule h.field (algebra_at a.side h).quiver a → (w d : ℕ) → w < vertex_count h.quiver → d ≡ slice_index_or a.dims w d → (b : PlainMatrix) → b ≡ plain h.field 0 d (zero_rows 0 d) → SpansArrows (read h a) w 0 b
no_arrows h a shape w d l e b is = SpansArrows-none (read h a) w b there (zero_matrix h.field 0 d b (omega arith) is)
  where
    Q : Quiver
    Q = (algebra_at a.side h).quiver

    inside : w < (algebra_at a.side h).quiver.vertices
    inside = let v = vertices_at a.side h in omega arith

    here : d ≡ dim_at (algebra_at a.side h).quiver a.dims w
    here = e ∙ get_or_default_zero a.dims w d (let c = shape.counted in omega (arith, inside)) ∙ sym (dim_at-below (algebra_at a.side h).quiver a.dims w inside)

    there : b ≡ plain h.field 0 (dim_at (algebra_at a.side h).quiver a.dims w) b.rows
    there = is ∙ ap (λ n. plain h.field 0 n (zero_rows 0 d)) here ∙ ap (λ rows. plain h.field 0 (dim_at (algebra_at a.side h).quiver a.dims w) rows) (sym (ap (λ (m : PlainMatrix). m.rows) is))

-- All arrows of the header are all those of the side.
pub all_arrows : (h : Header) (a : Module) (w : ℕ) (b : PlainMatrix) → SpansArrows (read h a) w (arrow_count h.quiver) b → IsFormOf (arrow_family (read h a) w) b
all_arrows h a w b s = arrows_form (read h a) w b (subst (λ (k : ℕ). SpansArrows (read h a) w k b) (sym (arrows_at a.side h)) s)

pub all_vertices : (h : Header) (a : Module) (bases : List PlainMatrix) → HaveForms (read h a) (arrow_size (read h a)) (arrow_family (read h a)) (vertex_count h.quiver) bases
    → HaveForms (read h a) (arrow_size (read h a)) (arrow_family (read h a)) (algebra_at a.side h).quiver.vertices bases
all_vertices h a bases s = subst (λ (k : ℕ). HaveForms (read h a) (arrow_size (read h a)) (arrow_family (read h a)) k bases) (sym (vertices_at a.side h)) s

-- The bases have rows of the lengths of the dimensions.
pub narrow_bases : (h : Header) (a : Module) → IsModule h.field (algebra_at a.side h).quiver a → (size : ℕ → ℕ) (g : (v : ℕ) → Mat h.field (size v) ((read h a).dim v)) (k : ℕ) (bases : List PlainMatrix)
    → HaveForms (read h a) size g k bases → AreNarrow bases
narrow_bases h a shape size g k bases H = record {
  each = λ v m l.
      let c = H.counted in
      let e = ap (λ (m : PlainMatrix). m.col_count) (H.each v m (omega arith)).shape in
      let d = dim_few h.field (algebra_at a.side h).quiver a shape v in
      omega (arith, e, d);
}
