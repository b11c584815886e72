-- The rows of transposed maps, along words of the other side.
use Rattle.std.proofs.Common.{ℕ, ◌≡◌, ◌<◌, ◌≤◌, ◌+◌, List, [], length, get_or, set, get_or-set_same, get_or-set_other, inl, inr, refl, sym, ap, ◌∙◌, arith, subst, mod-eq_of_lt, add-one}
use Rattle.std.specs.Prelude.{slice_index, slice_index_or}
use Rattle.std.proofs.lemmas.Bool.{cases_lt, cases_eq}
use Rattle.linear_algebra.specs.Field.{Gf, order, mul}
use Rattle.linear_algebra.specs.FieldLaws.{order-pos, one-lt-order, mul_below, one_mul, zero_mul}
use Rattle.linear_algebra.specs.Sums.{sum-same, sum-single}
use Rattle.linear_algebra.specs.Matrix.{Row, delta, delta-same, delta-other, ◌·◌}
use Rattle.linear_algebra.specs.Rows.{IsRow}
use Rattle.linear_algebra.specs.Typed.{list_of_row}
use Rattle.linear_algebra.proofs.Typed.{as_row-entry, get_or-list_of_row, IsRow-list_of_row, as_row-list_of_row}
use Rattle.linear_algebra.specs.BlockFamilies.{total}
use Rattle.linear_algebra.proofs.BlockFamilies.{total-same, total_grows}
use Rattle.fp_linear.specs.Slices.{AreElements, IsWritten}
use Rattle.fp_linear.specs.Meeting.{IsClearFrom}
use Rattle.quiver_paths.specs.declared.Path.{Path}
use Rattle.path_algebra.specs.declared.Header.{Header}
use Rattle.path_algebra.specs.Rows.{path_at}
use Rattle.alg_table.specs.TableView.{IsTable}
use Rattle.alg_table.specs.WordPlaces.{AreWordsAt}
use Rattle.representations.specs.Quiver.{Quiver, opposite}
use Rattle.representations.specs.Rep.{Rep}
use Rattle.projectives.specs.Words.{Words, along_word}
use Rattle.projectives.specs.CanonicalCover.{vertex_in}
use Rattle.projectives.specs.TwoSided.{other}
use Rattle.bound_algebra.specs.TypedPaths.{quiver_of}
use Rattle.bound_tables.specs.TableSides.{table_sides}
use Rattle.module_types.specs.declared.Side.{Side}
use Rattle.module_types.specs.declared.Side.TheVariants.{Right, Left}
use Rattle.module_types.specs.declared.TermRows.{TermRows}
use Rattle.module_types.specs.Algebras.{algebra_at, sided_words, other_side}
use Rattle.module_types.specs.Shapes.{IsTerm}
use Rattle.module_types.specs.Walks.{step}
use Rattle.module_types.specs.TermMatrices.{sum_of_term}
use Rattle.module_types.specs.Presentations.{transposed_row}
use Rattle.module_types.proofs.Duals.{other_swap}
use Rattle.module_types.proofs.TermMatrices.{place_in, rows_along-row}
use Rattle.module_types.proofs.Presentations.{transposed_row-entry, transposed_of-at}
use Rattle.module_checks.specs.RowWalks.{along_all}
use Rattle.module_checks.proofs.Walks.{along_same}
use Rattle.term_rows.specs.SumDims.{side_in_table, count_to, sum_dim}
use Rattle.term_rows.specs.RowSteps.{IsStep, part_dim}
use Rattle.term_rows.proofs.SumSteps.{count_is, sum_dim_is}
use Rattle.term_rows.proofs.AddedWords.{part_dims, count_places}
use Rattle.term_rows.proofs.WordRows.{word_row}
use Rattle.translate_checks.specs.Across.{presentation, sides_of, sum_in, across, transposed_in, HoldsTransposedRow}
use Rattle.translate_checks.specs.Dots.{HoldsRow}

-- counts of words from the one side and from the other
pub count_across : (words : List Path) (side : Side) (v w : ℕ) → count_to words (other_side side) v w ≡ count_to words side w v
count_across words Right v w = refl
count_across words Left v w = refl

pub places_across : (words : List Path) (side : Side) (v w : ℕ) (places : List ℕ) → AreWordsAt words (side_in_table (other_side side)) v w places → AreWordsAt words (side_in_table side) w v places
places_across words Right v w places a = a
places_across words Left v w places a = a

-- An arrow takes a unit row to a row of its matrix.
pub step_of_unit : {q : Gf} {Q : Quiver} (X : Rep q Q) (a j : ℕ) (row : List ℕ) → j < X.dim (Q.source a) → ((i : ℕ) → slice_index row i ≡ delta j i) → (i : ℕ) → step X a (slice_index row) i ≡ (X.mat a).at j i
unfolding step
step_of_unit {q} {Q} X a j row l e i =
    sum-same q (X.dim (Q.source a)) _ _ (λ t b. ap (λ z. mul q z ((X.mat a).at t i)) (e t))
    ∙ sum-single q (X.dim (Q.source a)) j (λ t. mul q (delta j t) ((X.mat a).at t i)) l (λ t b d. ap (λ z. mul q z ((X.mat a).at t i)) (delta-other j t (λ e. d (sym e))) ∙ zero_mul q _)
    ∙ mod-eq_of_lt (mul_below q (delta j j) ((X.mat a).at j i))
    ∙ ap (λ z. mul q z ((X.mat a).at j i)) (delta-same j)
    ∙ one_mul q ((X.mat a).at j i) ((X.mat a).fits.small j i)

pub unit_there : (j : ℕ) (clear : List ℕ) → IsClearFrom 0 clear → j < length clear → (i : ℕ) → slice_index (set clear j 1) i ≡ delta j i
unit_there j clear z l i = elim (cases_eq i j) [
  | inl e ↦ ap (λ i. slice_index (set clear j 1) i) e ∙ get_or-set_same clear j 1 0 l ∙ sym (delta-same j) ∙ ap (delta j) (sym e)
  | inr d ↦ get_or-set_other clear j i 1 0 d ∙ z.clear i (omega arith) ∙ sym (delta-other j i (λ e. d (sym e)))
]

pub unit_elements : (q : Gf) (j : ℕ) (clear : List ℕ) → IsClearFrom 0 clear → j < length clear → AreElements q (set clear j 1)
unit_elements q j clear z l = record {
  small = λ i. elim (cases_eq i j) [
    | inl e ↦ subst (λ z. z < order q) (sym (ap (λ i. slice_index (set clear j 1) i) e ∙ get_or-set_same clear j 1 0 l)) (one-lt-order q)
    | inr d ↦ subst (λ z. z < order q) (sym (get_or-set_other clear j i 1 0 d ∙ z.clear i (omega arith))) (order-pos q)
  ];
}

pub row_of_step : {q : Gf} {Q : Quiver} (X : Rep q Q) (a j : ℕ) (clear next : List ℕ) → IsClearFrom 0 clear → j < length clear → j < X.dim (Q.source a) → IsStep X a (set clear j 1) next → HoldsRow (X.mat a) j next
row_of_step X a j clear next z l b s = record { at = λ i. s.at i ∙ step_of_unit X a j (set clear j 1) b (unit_there j clear z l) i }

module _ (h : Header) (words : List Path) (t : IsTable h words) where
  -- a row along a word, by the arrows that the table lists
  row_of_word : (side : Side) (X : Rep h.field (algebra_at side h).quiver) (v w i c : ℕ) (places row : List ℕ) (x : Row h.field (X.dim v)) → AreWordsAt words (side_in_table side) v w places → i < length places
      → ((z : ℕ) → slice_index row z ≡ x.at 0 z) → (x · along_word (sided_words side (table_sides h words t)).words X v w i).at 0 c ≡ along_all X side (path_at words (get_or places i 0)).arrows (slice_index row) c
  row_of_word side X v w i c places row x a l e =
      let arrows = (path_at words (get_or places i 0)).arrows in
      ap (λ (z : Row h.field (X.dim v)). (z · along_word (sided_words side (table_sides h words t)).words X v w i).at 0 c) (sym (as_row-list_of_row x))
      ∙ word_row h words t side X v w i c places (list_of_row x) a l (IsRow-list_of_row x)
      ∙ along_same X side arrows (length arrows) (slice_index (list_of_row x)) (slice_index row) (λ z. get_or-list_of_row x z ∙ sym (e z)) c

  pub row_across : (side : Side) (X : Rep h.field (opposite (algebra_at side h).quiver)) (v w i c : ℕ) (places row : List ℕ) (x : Row h.field (X.dim v)) → AreWordsAt words (side_in_table (other_side side)) v w places → i < length places
      → ((z : ℕ) → slice_index row z ≡ x.at 0 z) → (x · along_word (other (sides_of h words t side)) X v w i).at 0 c ≡ along_all X (other_side side) (path_at words (get_or places i 0)).arrows (slice_index row) c
  row_across Right X v w i c places row x a l e = row_of_word Left X v w i c places row x a l e
  row_across Left X v w i c places row x a l e =
      ap (λ (W : Words h.field (quiver_of h.quiver)). (x · along_word W X v w i).at 0 c) (other_swap (table_sides h words t)) ∙ row_of_word Right X v w i c places row x a l e

  -- The sum across is that of the other side.
  pub along_across : (side : Side) (vs : List ℕ) (arrows : List ℕ) (f : ℕ → ℕ) (c : ℕ)
      → along_all (sum_in h words t (other_side side) vs) (other_side side) arrows f c ≡ along_all (across h words t side vs) (other_side side) arrows f c
  along_across Right vs arrows f c = refl
  along_across Left vs arrows f c = refl

  pub dim_across : (side : Side) (vs : List ℕ) (w : ℕ) → (across h words t side vs).dim w ≡ sum_dim words (other_side side) vs w
  dim_across Right vs w = sum_dim_is h words t Left vs w
  dim_across Left vs w = sum_dim_is h words t Right vs w

  pub mat_across : (side : Side) (vs : List ℕ) (a j i : ℕ) → ((sum_in h words t (other_side side) vs).mat a).at j i ≡ ((across h words t side vs).mat a).at j i
  mat_across Right vs a j i = refl
  mat_across Left vs a j i = refl

  pub row_of_arrow : (side : Side) (vs : List ℕ) (a j : ℕ) (s : List ℕ) → HoldsRow ((sum_in h words t (other_side side) vs).mat a) j s → HoldsRow ((across h words t side vs).mat a) j s
  row_of_arrow side vs a j s r = record { at = λ i. r.at i ∙ mat_across side vs a j i }

  -- offsets
  pub starts_across : (side : Side) (vs : List ℕ) (w j : ℕ) → total j (part_dim words (other_side side) vs w) ≡ total j (λ c. (other (sides_of h words t side)).count (vertex_in vs c) w)
  starts_across side vs w j = total-same j _ _ (λ c l. count_across words side (vertex_in vs c) w ∙ sym (count_is h words t side w (vertex_in vs c)))

  module _ (side : Side) (cover : List ℕ) (syzygy : TermRows) (T : IsTerm h.field (quiver_of h.quiver) (sum_dim words side cover) syzygy) where
    -- the numbers of a transposed row
    entry_across : (i j x : ℕ) → i < length syzygy.vertices → j < length cover → x < count_to words side (vertex_in cover j) (vertex_in syzygy.vertices i)
        → (transposed_row (sides_of h words t side) (presentation cover syzygy) j).at 0 (total i (part_dim words (other_side side) syzygy.vertices (vertex_in cover j)) + x)
        ≡ slice_index (slice_index_or syzygy.images i []) (total j (part_dim words side cover (vertex_in syzygy.vertices i)) + x)
    entry_across i j x l m b =
        let W = (sides_of h words t side).words in
        let v = vertex_in syzygy.vertices i in
        let u = vertex_in cover j in
        let row = transposed_row (sides_of h words t side) (presentation cover syzygy) j in
        let image = slice_index_or syzygy.images i [] in
        let P = sum_of_term W (presentation cover syzygy).cover in
        let r : IsRow h.field (P.dim v) image = subst (λ n. IsRow h.field n image) (sym (sum_dim_is h words t side cover v)) (T.each i l) in
        ap (λ n. row.at 0 (n + x)) (starts_across side syzygy.vertices u i)
        ∙ transposed_row-entry (sides_of h words t side) (presentation cover syzygy) i j x l m (subst (λ n. x < n) (sym (count_is h words t side u v)) b)
        ∙ as_row-entry h.field (P.dim v) image r (total j (λ c. W.count (vertex_in cover c) v) + x)
        ∙ ap (λ n. slice_index image (n + x)) (sym (part_dims h words t side cover v j))

    -- the first parts of such a row stand in a slice, and zeros behind them
    pub record HasParts (j n : ℕ) (s : List ℕ) : Type 0 where
      pub parts : (i x : ℕ) → i < n → x < count_to words (other_side side) (vertex_in syzygy.vertices i) (vertex_in cover j)
          → slice_index s (total i (part_dim words (other_side side) syzygy.vertices (vertex_in cover j)) + x) ≡ slice_index (slice_index_or syzygy.images i []) (total j (part_dim words side cover (vertex_in syzygy.vertices i)) + x)
      pub behind : (k : ℕ) → total n (part_dim words (other_side side) syzygy.vertices (vertex_in cover j)) ≤ k → slice_index s k ≡ 0

    pub parts-none : (j : ℕ) (s : List ℕ) → IsClearFrom 0 s → HasParts j 0 s
    parts-none j s z = record { parts = λ i x l b. absurd (omega arith); behind = λ k l. z.clear k (omega arith) }

    pub parts-more : (j i n from to : ℕ) (image old new : List ℕ) → from ≡ total j (part_dim words side cover (vertex_in syzygy.vertices i)) → to ≡ total i (part_dim words (other_side side) syzygy.vertices (vertex_in cover j))
        → n ≡ count_to words (other_side side) (vertex_in syzygy.vertices i) (vertex_in cover j) → image ≡ slice_index_or syzygy.images i []
        → HasParts j i old → IsWritten old new to n (λ c. slice_index image (from + c)) → HasParts j (i + 1) new
    parts-more j i n from to image old new fe te ne ie p w =
        let size = part_dim words (other_side side) syzygy.vertices (vertex_in cover j) in
        let next : total (i + 1) size ≡ total i size + size i = rw add-one refl in
        record {
          parts = λ k x l b. elim (cases_eq k i) [
            | inl e ↦ subst (λ k. x < size k → slice_index new (total k size + x) ≡ slice_index (slice_index_or syzygy.images k []) (total j (part_dim words side cover (vertex_in syzygy.vertices k)) + x)) (sym e)
                (λ b. ap (λ z. slice_index new (z + x)) (sym te) ∙ w.within x (omega (arith, ne, b)) ∙ ap (λ s. slice_index s (from + x)) ie ∙ ap (λ z. slice_index (slice_index_or syzygy.images i []) (z + x)) fe) b
            | inr d ↦ let g = total_grows size i k (omega arith) in w.before (total k size + x) (omega (arith, g, te, b)) ∙ p.parts k x (omega arith) b
          ];
          behind = λ k l. w.after k (omega (arith, te, ne, next, l)) ∙ p.behind k (omega (arith, next, l));
        }

    pub whole_row : (j : ℕ) (s : List ℕ) → j < length cover → HasParts j (length syzygy.vertices) s → HoldsTransposedRow h words t side cover syzygy j s
    whole_row j s m p = record {
      at = λ z.
          let size = part_dim words (other_side side) syzygy.vertices (vertex_in cover j) in
          let row = transposed_row (sides_of h words t side) (presentation cover syzygy) j in
          elim (cases_lt z (total (length syzygy.vertices) size)) [
            | inl l ↦
                let c = place_in size (length syzygy.vertices) z l in
                ap (slice_index s) (sym c.4) ∙ p.parts c.0 c.1 c.2 c.3
                ∙ sym (entry_across c.0 j c.1 c.2 m (subst (λ n. c.1 < n) (count_across words side (vertex_in syzygy.vertices c.0) (vertex_in cover j)) c.3))
                ∙ ap (λ z. row.at 0 z) c.4
            | inr b ↦ p.behind z b ∙ sym (row.fits.right 0 z (subst (λ n. n ≤ z) (sym (dim_across side syzygy.vertices (vertex_in cover j))) b))
          ];
    }

    -- The row at the place of generator j and word i.
    pub transposed_cell : (w j i c : ℕ) (places row : List ℕ) → j < length cover → AreWordsAt words (side_in_table (other_side side)) (vertex_in cover j) w places → i < length places
        → HoldsTransposedRow h words t side cover syzygy j row
        → (transposed_in h words t side cover syzygy w).at (total j (part_dim words (other_side side) cover w) + i) c
        ≡ along_all (sum_in h words t (other_side side) syzygy.vertices) (other_side side) (path_at words (get_or places i 0)).arrows (slice_index row) c
    transposed_cell w j i c places row l a b r =
        let S = sides_of h words t side in
        let X = across h words t side syzygy.vertices in
        let arrows = (path_at words (get_or places i 0)).arrows in
        let n : (other S).count (vertex_in cover j) w ≡ length places =
        count_is h words t side w (vertex_in cover j) ∙ sym (count_across words side (vertex_in cover j) w) ∙ sym (count_is h words t (other_side side) (vertex_in cover j) w) ∙ count_places h words t (other_side side) (vertex_in cover j) w places a in
        ap (λ n. (transposed_in h words t side cover syzygy w).at (n + i) c) (starts_across side cover w j)
        ∙ ap (λ m. m.at (total j (λ c. (other S).count (vertex_in cover c) w) + i) c) (transposed_of-at S (presentation cover syzygy) w)
        ∙ rows_along-row (other S) X (length cover) (vertex_in cover) (transposed_row S (presentation cover syzygy)) w j i c l (subst (λ n. i < n) (sym n) b)
        ∙ row_across side X (vertex_in cover j) w i c places row (transposed_row S (presentation cover syzygy) j) a b r.at
        ∙ sym (along_across side syzygy.vertices arrows (slice_index row) c)
