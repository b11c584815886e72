-- Rows of the matrices of an entry.
use Rattle.std.proofs.Common.{ℕ, ◌<◌, ◌≡◌, List, [], length, get_or, inl, inr, refl, sym, ap, ◌∙◌, arith, subst}
use Rattle.std.specs.Prelude.{slice_index, slice_index_or}
use Rattle.std.proofs.lemmas.Bool.{cases_lt}
use Rattle.std.proofs.lemmas.List.{get_or-map, get_or_past}
use Rattle.linear_algebra.specs.Field.{Gf, order}
use Rattle.linear_algebra.specs.Rows.{IsRow}
use Rattle.linear_algebra.proofs.Rows.{row-entry}
use Rattle.fp_linear.specs.Matrix.{PlainMatrix, plain}
use Rattle.quiver_paths.specs.Quiver.{vertex_count, arrow_count}
use Rattle.path_algebra.specs.declared.Header.{Header}
use Rattle.representations.specs.Quiver.{Quiver}
use Rattle.module_types.specs.declared.Side.{Side}
use Rattle.module_types.specs.declared.Side.TheVariants.{Right, Left}
use Rattle.module_types.specs.declared.Module.{Module}
use Rattle.module_types.specs.declared.Map.{Map}
use Rattle.module_types.specs.Algebras.{algebra_at}
use Rattle.module_types.specs.Readings.{dim_at, dim_past, rows_at}
use Rattle.module_types.specs.Shapes.{AreMatrices}
use Rattle.module_checks.proofs.HomRank.{dim_at-is}
use Rattle.module_checks.proofs.Sides.{arrows_at}
use Rattle.module_faults.specs.ModuleFaults.{IsSmallModule}
use Rattle.rep_arena.specs.RowCounts.{row_count_at}
use Rattle.rep_arena.specs.Entries.{Entries, IsMapAmong, module_at}

-- a dimension as it is printed and as it is read
dim_same : (Q : Quiver) (dims : List ℕ) → length dims ≡ Q.vertices → (v : ℕ) → dim_at Q dims v ≡ slice_index dims v
dim_same Q dims c v = elim (cases_lt v Q.vertices) [
  | inl l ↦ dim_at-is Q dims v l
  | inr g ↦ dim_past Q dims v g ∙ sym (get_or_past dims v 0 (omega arith))
]

vertices_at : (side : Side) (h : Header) → (algebra_at side h).quiver.vertices ≡ vertex_count h.quiver
vertices_at Right h = refl
vertices_at Left h = refl

-- a matrix of a list that has its shape
module _ (q : Gf) (count : ℕ) (rows columns : ℕ → ℕ) (matrices : List PlainMatrix) (M : AreMatrices q count rows columns matrices) (a i : ℕ) (l : a < count) (b : i < rows a) where
  none : PlainMatrix
  none = plain q 0 0 []

  row_in : i < row_count_at matrices a
  row_in = let e = (M.each a none l).row_count in rw (get_or-map (λ (m : PlainMatrix). m.row_count) matrices a none 0 (omega (arith, M.counted))) (omega arith)

  row_of : (r : List ℕ) → r ≡ slice_index_or (rows_at matrices a) i [] → IsRow q (columns a) r
  row_of r e =
      let m = slice_index_or matrices a none in
      let shape = M.each a none l in
      let at : r ≡ slice_index_or m.rows i [] = e ∙ ap (λ (rs : List (List ℕ)). get_or rs i []) (get_or-map (λ (m : PlainMatrix). m.rows) matrices a none [] (omega (arith, M.counted))) in
      record {
        count = ap length at ∙ shape.matrix.grid.width i (let s = shape.row_count in omega arith) ∙ shape.col_count;
        small = λ j. subst (λ (x : List ℕ). get_or x j 0 < order q) (sym at) (subst (λ (f : Gf). get_or (slice_index_or m.rows i []) j 0 < order f) shape.field
            (subst (λ x. x < order m.field) (sym (row-entry m.rows i j)) (shape.matrix.grid.small i j)));
      }

module _ (h : Header) (m : Module) (S : IsSmallModule h m) (a i : ℕ) (l : a < arrow_count h.quiver) (b : i < slice_index m.dims ((algebra_at m.side h).quiver.source a)) where
  in_arrows : a < (algebra_at m.side h).quiver.arrows
  in_arrows = subst (λ n. a < n) (sym (arrows_at m.side h)) l

  in_source : i < dim_at (algebra_at m.side h).quiver m.dims ((algebra_at m.side h).quiver.source a)
  in_source = subst (λ n. i < n) (sym (dim_same (algebra_at m.side h).quiver m.dims S.shape.counted ((algebra_at m.side h).quiver.source a))) b

  pub arrow_row_in : i < row_count_at m.matrices a
  arrow_row_in = row_in h.field (algebra_at m.side h).quiver.arrows _ _ m.matrices S.shape.matrices a i in_arrows in_source

  pub is_arrow_row : (r : List ℕ) → r ≡ slice_index_or (rows_at m.matrices a) i [] → IsRow h.field (slice_index m.dims ((algebra_at m.side h).quiver.target a)) r
  is_arrow_row r e = subst (λ n. IsRow h.field n r) (dim_same (algebra_at m.side h).quiver m.dims S.shape.counted ((algebra_at m.side h).quiver.target a))
      (row_of h.field (algebra_at m.side h).quiver.arrows _ _ m.matrices S.shape.matrices a i in_arrows in_source r e)

module _ (e : Entries) (f : Map) (S : IsMapAmong e f) (v i : ℕ) (l : v < vertex_count e.header.quiver) (b : i < slice_index (module_at e f.source).dims v) where
  in_vertices : v < (algebra_at (module_at e f.source).side e.header).quiver.vertices
  in_vertices = subst (λ n. v < n) (sym (vertices_at (module_at e f.source).side e.header)) l

  in_dim : i < dim_at (algebra_at (module_at e f.source).side e.header).quiver (module_at e f.source).dims v
  in_dim = subst (λ n. i < n) (sym (dim_at-is (algebra_at (module_at e f.source).side e.header).quiver (module_at e f.source).dims v in_vertices)) b

  pub vertex_row_in : i < row_count_at f.matrices v
  vertex_row_in = row_in e.header.field (algebra_at (module_at e f.source).side e.header).quiver.vertices _ _ f.matrices S.small.shape v i in_vertices in_dim

  pub is_vertex_row : (r : List ℕ) → r ≡ slice_index_or (rows_at f.matrices v) i [] → IsRow e.header.field (slice_index (module_at e f.target).dims v) r
  is_vertex_row r h = subst (λ n. IsRow e.header.field n r) (dim_at-is (algebra_at (module_at e f.source).side e.header).quiver (module_at e f.target).dims v in_vertices)
      (row_of e.header.field (algebra_at (module_at e f.source).side e.header).quiver.vertices _ _ f.matrices S.small.shape v i in_vertices in_dim r h)
