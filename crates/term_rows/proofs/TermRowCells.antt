-- The printed matrices of terms, row by row.
use Rattle.std.proofs.Common.{ℕ, zero, suc, ◌≡◌, ◌<◌, ◌≤◌, ◌+◌, ◌*◌, List, [], length, get_or, inl, inr, refl, sym, ap, ◌∙◌, arith, subst}
use Rattle.std.specs.Prelude.{slice_index, slice_index_or}
use Rattle.std.proofs.lemmas.Bool.{cases_eq}
use Rattle.std.proofs.lemmas.List.{get_or_default}
use Rattle.linear_algebra.specs.Field.{Gf, order}
use Rattle.linear_algebra.specs.Matrix.{Mat, Mat-eq_below}
use Rattle.linear_algebra.specs.Rows.{IsRow, rows_of}
use Rattle.linear_algebra.specs.Typed.{as_mat}
use Rattle.linear_algebra.specs.BlockFamilies.{total}
use Rattle.linear_algebra.proofs.Typed.{as_mat-entry}
use Rattle.linear_algebra.proofs.BlockFamilies.{total_grows}
use Rattle.fp_linear.specs.Slices.{AreElements, IsWritten, cell}
use Rattle.fp_linear.proofs.Cells.{cell-is, cell-entry, place_below, IsGrid-rows_of}
use Rattle.quiver_paths.specs.declared.Path.{Path}
use Rattle.path_algebra.specs.declared.Header.{Header}
use Rattle.path_algebra.specs.Rows.{path_at}
use Rattle.alg_table.specs.TableView.{IsTable}
use Rattle.alg_table.specs.WordPlaces.{AreWordsAt}
use Rattle.quiver_paths.specs.Quiver.{vertex_count}
use Rattle.bound_algebra.specs.TypedPaths.{quiver_of}
use Rattle.representations.specs.Quiver.{Quiver}
use Rattle.representations.specs.Rep.{Rep}
use Rattle.bound_tables.specs.TableSides.{table_sides}
use Rattle.module_types.specs.declared.Side.{Side}
use Rattle.module_types.specs.declared.Module.{Module}
use Rattle.module_types.specs.declared.TermRows.{TermRows}
use Rattle.module_types.specs.Algebras.{algebra_at, sided_words}
use Rattle.module_types.specs.Shapes.{IsTerm}
use Rattle.module_types.specs.TermMatrices.{count, vertex, generator_row}
use Rattle.module_types.proofs.TermMatrices.{rows_along-row}
use Rattle.claim_conditions.specs.Terms.{term_at, vertices_at}
use Rattle.module_types.specs.declared.Side.TheVariants.{Right, Left}
use Rattle.module_checks.proofs.HomRank.{dim_at-is}
use Rattle.std.proofs.lemmas.Grind.{get_or_default_zero}
use Rattle.fp_linear.proofs.Meeting.{row_step}
use Rattle.module_checks.specs.RowWalks.{along_all, IsArrowsMoved}
use Rattle.module_checks.proofs.Walks.{along_same}
use Rattle.term_rows.specs.SumDims.{side_in_table, sum_dim, covered_dim, AreTerms, AreVertices}
use Rattle.term_rows.specs.RowSteps.{part_dim}
use Rattle.term_rows.specs.TermCells.{HoldsAlong, FirstRows, term_sum, term_target, matrix_in}
use Rattle.term_rows.proofs.SumSteps.{sum_dim_is}
use Rattle.term_rows.proofs.AddedWords.{part_dims, count_places}
use Rattle.term_rows.proofs.WordRows.{word_row, covered_is}

pub holds_along : {q : Gf} {Q : Quiver} (X : Rep q Q) (side : Side) (arrows same image old new : List ℕ) → arrows ≡ same → ((j : ℕ) → slice_index old j ≡ slice_index image j) → IsArrowsMoved X side arrows old new → HoldsAlong X side same (slice_index image) new
holds_along X side arrows same image old new e i m = record {
  at = λ j. m.at j ∙ along_same X side arrows (length arrows) (slice_index old) (slice_index image) i j ∙ ap (λ xs. along_all X side xs (slice_index image) j) e;
}

pub elements_of_image : (q : Gf) (image row : List ℕ) → ((j : ℕ) → slice_index row j ≡ slice_index image j) → AreElements q image → AreElements q row
elements_of_image q image row e a = record { small = λ k. subst (λ z. z < order q) (sym (e k)) (a.small k) }

module _ {q : Gf} {m k : ℕ} (a : Mat q m k) (n : ℕ) where
  pub rows-more : (r : ℕ) (old new row : List ℕ) → FirstRows a n r old → IsWritten old new (r * n) n (slice_index row) → ((c : ℕ) → c < n → slice_index row c ≡ a.at r c) → FirstRows a n (r + 1) new
  rows-more r old new row f w e = record {
    at = λ i c l b. elim (cases_eq i r) [
      | inl s ↦ subst (λ i. cell n new i c ≡ a.at i c) (sym s) (cell-is n new r c ∙ w.within c b ∙ e c b)
      | inr d ↦
          let p = place_below n i c r 0 (omega arith) b in
          cell-is n new i c ∙ w.before (i * n + c) (omega (arith, p)) ∙ sym (cell-is n old i c) ∙ f.at i c (omega arith) b
    ];
  }

  pub rows-none : (s : List ℕ) → FirstRows a n 0 s
  rows-none s = record { at = λ r c l b. absurd (omega arith) }

pub matrix_of_rows : {q : Gf} {m n : ℕ} (a : Mat q m n) (count width : ℕ) (s : List ℕ) → AreElements q s → m ≡ count → n ≡ width → FirstRows a width count s → as_mat q m n (rows_of m n s) ≡ a
matrix_of_rows {q} {m} {n} a count width s small e d f = Mat-eq_below _ _ (λ i j l k.
    as_mat-entry q m n (rows_of m n s) (IsGrid-rows_of q m n s small) i j ∙ cell-entry m n s i j l k ∙ ap (λ w. cell w s i j) d ∙ f.at i j (omega (arith, l, e)) (omega (arith, k, d)))

-- what is printed for a generator
module _ (words : List Path) (h : Header) (a : Module) (terms : List TermRows) (k : ℕ) (T : AreTerms words h a terms (suc k)) (term : TermRows) (e : term ≡ slice_index_or terms k term) where
  pub term_is : term ≡ term_at terms k
  term_is = e ∙ get_or_default terms k term _ (let c = T.counted in omega (arith, c))

  shape : IsTerm h.field (quiver_of h.quiver) (covered_dim words h a terms k) (term_at terms k)
  shape = T.each k (omega arith)

  pub term_vertices : AreVertices h term.vertices
  term_vertices = subst (λ (t : TermRows). AreVertices h t.vertices) (sym term_is) (record { declared = shape.declared })

  pub term_counted : length term.images ≡ length term.vertices
  term_counted = subst (λ (t : TermRows). length t.images ≡ length t.vertices) (sym term_is) shape.counted

  pub term_image : (j : ℕ) (image : List ℕ) → j < length term.vertices → image ≡ slice_index_or term.images j image → IsRow h.field (covered_dim words h a terms k (get_or term.vertices j 0)) image
  term_image j image l i =
      let s : IsRow h.field (covered_dim words h a terms k (get_or term.vertices j 0)) (slice_index_or term.images j []) =
      subst (λ (t : TermRows). j < length t.vertices → IsRow h.field (covered_dim words h a terms k (get_or t.vertices j 0)) (slice_index_or t.images j [])) (sym term_is) (shape.each j) l in
      subst (IsRow h.field (covered_dim words h a terms k (get_or term.vertices j 0))) (sym (i ∙ get_or_default term.images j image [] (omega (arith, term_counted, l)))) s

-- the entry at the place of generator j and word i
module _ (h : Header) (words : List Path) (t : IsTable h words) (a : Module) (terms : List TermRows) (k : ℕ) (T : AreTerms words h a terms (suc k)) (w : ℕ) where
  pub term_cell : (j i c : ℕ) (places image : List ℕ) → j < count (term_at terms k) → AreWordsAt words (side_in_table a.side) (vertex (term_at terms k) j) w places → i < length places
      → image ≡ slice_index_or (term_at terms k).images j []
      → (matrix_in h words t a terms k w).at (total j (part_dim words a.side (vertices_at terms k) w) + i) c ≡ along_all (term_target h words t a terms k) a.side (path_at words (get_or places i 0)).arrows (slice_index image) c
  term_cell j i c places image l A m e =
      let W = (sided_words a.side (table_sides h words t)).words in
      let Y = term_target h words t a terms k in
      let term = term_at terms k in
      let shape = T.each k (omega arith) in
      let r : IsRow h.field (Y.dim (vertex term j)) (slice_index_or term.images j []) =
      subst (λ n. IsRow h.field n (slice_index_or term.images j [])) (sym (covered_is h words t a terms k (vertex term j))) (shape.each j l) in
      ap (λ n. (matrix_in h words t a terms k w).at (n + i) c) (part_dims h words t a.side term.vertices w j)
      ∙ rows_along-row W Y (count term) (vertex term) (generator_row Y term) w j i c l (subst (λ n. i < n) (sym (count_places h words t a.side (vertex term j) w places A)) m)
      ∙ word_row h words t a.side Y (vertex term j) w i c places (slice_index_or term.images j []) A m r
      ∙ ap (λ xs. along_all Y a.side (path_at words (get_or places i 0)).arrows (slice_index xs) c) (sym e)

  -- the sizes
  pub rows_are : (term_sum h words t a terms k).dim w ≡ sum_dim words a.side (vertices_at terms k) w
  rows_are = sum_dim_is h words t a.side (vertices_at terms k) w

  pub columns_are : (term_target h words t a terms k).dim w ≡ covered_dim words h a terms k w
  columns_are = covered_is h words t a terms k w

-- the dimension of a module at a vertex
side_vertices : (side : Side) (h : Header) → (algebra_at side h).quiver.vertices ≡ vertex_count h.quiver
side_vertices Right h = refl
side_vertices Left h = refl

pub first_dim : (words : List Path) (h : Header) (a : Module) (terms : List TermRows) (k w d : ℕ) → k ≡ 0 → w < vertex_count h.quiver → length a.dims ≡ (algebra_at a.side h).quiver.vertices → d ≡ slice_index_or a.dims w d → d ≡ covered_dim words h a terms k w
first_dim words h a terms k w d z l c e =
    e ∙ get_or_default_zero a.dims w d (let s = side_vertices a.side h in omega (arith, l, c, s)) ∙ sym (dim_at-is (quiver_of h.quiver) a.dims w l) ∙ ap (λ k. covered_dim words h a terms k w) (sym z)

-- a row lies within
pub row_within : (n r m len : ℕ) → r < m → len ≡ m * n → r * n + n ≤ len
row_within n r m len l e = let s = row_step n r m l in omega (arith, s, e)
