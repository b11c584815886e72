-- Where the first entries of combinations of reduced rows stand, and that the reduced row form of a span is unique; the same for lists of rows.
use Rattle.std.proofs.Common.{ℕ, zero, suc, ◌<◌, ◌≤◌, ◌≡◌, ◌≢◌, ◌⊎◌, inl, inr, sym, ap, ◌∙◌, arith, subst, List, not-suc-le-zero, le_antisymm}
use Rattle.std.proofs.lemmas.Bool.{cases_lt, cases_eq}
use Rattle.linear_algebra.specs.Field.{Gf, mul}
use Rattle.linear_algebra.specs.FieldLaws.{zero_mul, mul_zero}
use Rattle.linear_algebra.specs.Sums.{sum-zeros}
use Rattle.linear_algebra.specs.Matrix.{Mat, Row, Mat-eq_below, zeros, one, ◌·◌}
use Rattle.linear_algebra.specs.Parts.{row}
use Rattle.linear_algebra.specs.Rank.{IsInSpan, HasRightInverse, RankFactorisation}
use Rattle.linear_algebra.specs.RowForm.{IsRowReduced, selector}
use Rattle.linear_algebra.specs.Rows.{IsGrid, SameSpan}
use Rattle.linear_algebra.specs.Reduced.{IsReduced, pivot}
use Rattle.linear_algebra.specs.Typed.{as_mat, grid_of}
use Rattle.linear_algebra.proofs.MatrixLaws.{one_mul_mat, zeros_mul}
use Rattle.linear_algebra.proofs.PartsLaws.{Row-eq, row-at}
use Rattle.linear_algebra.proofs.Search.{first_nonzero}
use Rattle.linear_algebra.proofs.Solving.{row_in_span, in_span_trans, left_f}
use Rattle.linear_algebra.proofs.Subspaces.{inclusion_size}
use Rattle.linear_algebra.proofs.Rows.{rows_same}
use Rattle.linear_algebra.proofs.Reduced.{HasPivots-reduced, IsReduced-from_pivots}
use Rattle.linear_algebra.proofs.Typed.{as_mat-entry, entry-grid_of, IsGrid-grid_of, same_span_forth, same_span_back, SameSpan-as_mat, as_mat-grid_of}
use Rattle.linear_algebra.proofs.RowForm.{mul_selector, mul_selector-at, reduced_independent, reduced_coefficients, reduced_form}

module _ {q : Gf} {m n : ℕ} (a : Mat q m n) (p : ℕ → ℕ) (d : IsRowReduced a p) where
  -- an entry of a combination at a pivot is the coefficient there
  pub combination-at : (z : Row q m) (i : ℕ) → i < m → (z · a).at 0 (p i) ≡ z.at 0 i
  combination-at z i h =
      sym (mul_selector-at m (z · a) p 0 i h (d.inside i h)) ∙ ap (λ (w : Row q m). w.at 0 i) (reduced_coefficients a p d z)

  -- before the pivot of the first coefficient that is not zero there are zeros
  pub combination_before : (z : Row q m) (k j : ℕ) → k < m → ((t : ℕ) → t < k → z.at 0 t ≡ 0) → j < p k → (z · a).at 0 j ≡ 0
  unfolding ◌·◌
  combination_before z k j h b l = sum-zeros q m _ (λ t u. elim (cases_lt t k) [
    | inl x ↦ ap (λ c. mul q c (a.at t j)) (b t x) ∙ zero_mul q (a.at t j)
    | inr x ↦ ap (mul q (z.at 0 t)) (d.before t j u (further t u x)) ∙ mul_zero q (z.at 0 t)
  ])
    where
      further : (t : ℕ) → t < m → k ≤ t → j < p t
      further t u x = elim (cases_eq k t) [
        | inl e ↦ subst (λ t. j < p t) e l
        | inr e ↦ let f = d.further k t (omega arith) u in omega arith
      ]

  -- The first entry of a combination that is not zero stands at a pivot.
  pub first_at_pivot : (x : Row q n) (j : ℕ) → IsInSpan a x → x.at 0 j ≢ 0 → ((t : ℕ) → t < j → x.at 0 t ≡ 0) → (k : ℕ) × (k < m) × (p k ≡ j)
  unfolding zeros
  first_at_pivot x j s n b = go (first_nonzero m (s.by.at 0))
    where
      at : (t : ℕ) → (s.by · a).at 0 t ≡ x.at 0 t
      at t = ap (λ (y : Row q _). y.at 0 t) s.is

      go : ((k : ℕ) × (k < m) × (s.by.at 0 k ≢ 0) × ((t : ℕ) → t < k → s.by.at 0 t ≡ 0)) ⊎ ((k : ℕ) → k < m → s.by.at 0 k ≡ 0) → (k : ℕ) × (k < m) × (p k ≡ j)
      go (inl f) =
          let (k, h, e, z) = f in (
            k,
            h,
            elim (cases_lt (p k) j) [
              | inl l ↦ absurd (e (sym (combination-at s.by k h) ∙ at (p k) ∙ b (p k) l))
              | inr l ↦ elim (cases_lt j (p k)) [
                | inl r ↦ absurd (n (sym (at j) ∙ combination_before s.by k j h z r))
                | inr r ↦ omega arith
              ]
            ],
          )
      go (inr z) = absurd (n (sym (at j) ∙ ap (λ (w : Row q m). (w · a).at 0 j) (Row-eq s.by (zeros q 1 m) (λ t h. z t h)) ∙ ap (λ (w : Row q _). w.at 0 j) (zeros_mul a)))

-- Two reduced matrices with as many rows and the same span have the same pivots.
module _ {q : Gf} {m n : ℕ} (a b : Mat q m n) (p r : ℕ → ℕ) (d : IsRowReduced a p) (e : IsRowReduced b r) where
  pivot_among : IsInSpan b a → (i : ℕ) → i < m → (k : ℕ) × (k < m) × (r k ≡ p i)
  pivot_among s i h =
      first_at_pivot b r e (row i a) (p i) (row_in_span b a i s)
      (λ z. not_one (sym (row-at i a (p i) ∙ d.one i h) ∙ z))
      (λ t l. row-at i a t ∙ d.before i t h l)
    where
      not_one : 1 ≡ zero → ⊥
      not_one x = omega arith

  pivot_le : IsInSpan a b → (i : ℕ) → i < m → ((j : ℕ) → j < i → j < m → p j ≡ r j) → p i ≤ r i
  pivot_le t i l before = go (first_at_pivot a p d (row i b) (r i) (row_in_span a b i t) (λ z. not_one (sym (row-at i b (r i) ∙ e.one i l) ∙ z)) (λ j x. row-at i b j ∙ e.before i j l x))
    where
      not_one : 1 ≡ zero → ⊥
      not_one x = omega arith

      go : (k : ℕ) × (k < m) × (p k ≡ r i) → p i ≤ r i
      go f =
          let (k, h, x) = f in
          elim (cases_lt k i) [
            | inl c ↦ let y = before k c h in let z = e.further k i c l in omega arith
            | inr c ↦ elim (cases_eq i k) [
              | inl y ↦ let z : p i ≡ p k = ap p y in omega arith
              | inr y ↦ let z = d.further i k (omega arith) h in omega arith
            ]
          ]

pivots_below : {q : Gf} {m n : ℕ} (a b : Mat q m n) (p r : ℕ → ℕ) → IsRowReduced a p → IsRowReduced b r → IsInSpan b a → IsInSpan a b → (k i : ℕ) → i < k → i < m → p i ≡ r i
pivots_below a b p r d e s t zero i h l = absurd (not-suc-le-zero h)
pivots_below a b p r d e s t (suc k) i h l =
    le_antisymm
    (pivot_le a b p r d e t i l (λ j x y. pivots_below a b p r d e s t k j (omega arith) y))
    (pivot_le b a r p e d s i l (λ j x y. sym (pivots_below a b p r d e s t k j (omega arith) y)))

same_size : {q : Gf} {m n : ℕ} (a b : Mat q m n) (p r : ℕ → ℕ) → IsRowReduced a p → IsRowReduced b r → IsInSpan b a → IsInSpan a b → (i j : ℕ) → a.at i j ≡ b.at i j
same_size {q} {m} {n} a b p r d e s t i j =
    let agree : (i : ℕ) → i < m → p i ≡ r i = λ i h. pivots_below a b p r d e s t (suc i) i (omega arith) h in
    let coefficient : (i k : ℕ) → i < m → k < m → s.by.at i k ≡ (one q m).at i k = λ i k h l.
    ap (λ (z : Mat q m m). z.at i k) (sym (reduced_coefficients b r e s.by) ∙ ap (λ w. w · selector q n m r) s.is)
    ∙ mul_selector-at m a r i k l (e.inside k l) ∙ ap (a.at i) (sym (agree k l))
    ∙ sym (mul_selector-at m a p i k l (d.inside k l)) ∙ ap (λ (z : Mat q m m). z.at i k) (mul_selector a p d) in
    let same : s.by ≡ one q m = Mat-eq_below _ _ (λ i k h l. coefficient i k h l) in
    ap (λ (z : Mat q m n). z.at i j) (sym s.is ∙ ap (λ w. w · b) same ∙ one_mul_mat b)

-- Two matrices in reduced row form with the same span have as many rows and the same entries.
pub row_form_unique : {q : Gf} {k m n : ℕ} (a : Mat q k n) (b : Mat q m n) (p r : ℕ → ℕ) → IsRowReduced a p → IsRowReduced b r → IsInSpan b a → IsInSpan a b → (k ≡ m) × ((i j : ℕ) → a.at i j ≡ b.at i j)
row_form_unique {q} {k} {m} {n} a b p r d e s t =
    let sizes : k ≡ m = le_antisymm (inclusion_size a b (reduced_independent a p d) s) (inclusion_size b a (reduced_independent b r e) t) in
    (sizes, subst (λ m. (b : Mat q m n) → IsRowReduced b r → IsInSpan b a → IsInSpan a b → (i j : ℕ) → a.at i j ≡ b.at i j) sizes (λ b e s t. same_size a b p r d e s t) b e s t)

-- The number of reduced rows is the rank.
pub rank_of_span : {q : Gf} {m k n : ℕ} (f : Mat q m n) (b : Mat q k n) → HasRightInverse b → IsInSpan b f → IsInSpan f b → (F : RankFactorisation f) → F.size ≡ k
rank_of_span f b i s t F =
    le_antisymm
    (inclusion_size F.basis b (record { inverse = F.right; is = F.right_inverse }) (in_span_trans b f F.basis s (record { by = F.left; is = left_f F })))
    (inclusion_size b F.basis i (in_span_trans F.basis f b (record { by = F.into; is = F.product }) t))

-- Lists of rows in reduced row form.
module _ (q : Gf) (m n : ℕ) (rows : List (List ℕ)) (g : IsGrid q m n rows) where
  pub row_reduced-as_mat : IsReduced n rows → IsRowReduced (as_mat q m n rows) (pivot rows)
  row_reduced-as_mat r =
      let c = g.count in
      let h = HasPivots-reduced n rows r in
      record {
        inside = λ i l. h.inside i (omega arith);
        one = λ i l. as_mat-entry q m n rows g i (pivot rows i) ∙ h.one i (omega arith);
        before = λ i j l k. as_mat-entry q m n rows g i j ∙ h.before i j (omega arith) k;
        further = λ i k l b. h.further i k l (omega arith);
        cleared = λ i k l b d. as_mat-entry q m n rows g k (pivot rows i) ∙ h.cleared i k (omega arith) (omega arith) d;
      }

pub grid_of-reduced : {q : Gf} {m n : ℕ} (a : Mat q m n) (p : ℕ → ℕ) → IsRowReduced a p → IsReduced n (grid_of a)
grid_of-reduced {q} {m} {n} a p d =
    let g = IsGrid-grid_of a in
    let c = g.count in
    IsReduced-from_pivots q m n (grid_of a) p g (record {
      inside = λ i l. d.inside i (omega arith);
      one = λ i l. entry-grid_of a i (p i) ∙ d.one i (omega arith);
      before = λ i j l k. entry-grid_of a i j ∙ d.before i j (omega arith) k;
      further = λ i k l b. d.further i k l (omega arith);
      cleared = λ i k l b x. entry-grid_of a k (p i) ∙ d.cleared i k (omega arith) (omega arith) x;
    })

-- Lists of rows in reduced row form with the same span are equal.
pub reduced_unique : (q : Gf) (k m n : ℕ) (a b : List (List ℕ)) → IsGrid q k n a → IsGrid q m n b → IsReduced n a → IsReduced n b → SameSpan q n a b → a ≡ b
reduced_unique q k m n a b g h r t s =
    let u = row_form_unique (as_mat q k n a) (as_mat q m n b) (pivot a) (pivot b) (row_reduced-as_mat q k n a g r) (row_reduced-as_mat q m n b h t) (same_span_forth q k m n a b g h s) (same_span_back q k m n a b g h s) in
    rows_same k n a b g.count (h.count ∙ sym u.0) g.width (λ i l. h.width i (let e = u.0 in omega arith))
    (λ i j l p. sym (as_mat-entry q k n a g i j) ∙ u.1 i j ∙ as_mat-entry q m n b h i j)

-- Each list of rows has a reduced row form.
pub record HasReducedRows (q : Gf) (n : ℕ) (rows : List (List ℕ)) : Type 0 where
  pub size : ℕ
  pub list : List (List ℕ)
  pub grid : IsGrid q size n list
  pub reduced : IsReduced n list
  pub span : SameSpan q n rows list

pub reduced_rows : (q : Gf) (m n : ℕ) (rows : List (List ℕ)) → IsGrid q m n rows → HasReducedRows q n rows
reduced_rows q m n rows g =
    let f = reduced_form (as_mat q m n rows) in
    record {
      size = f.size;
      list = grid_of f.rows;
      grid = IsGrid-grid_of f.rows;
      reduced = grid_of-reduced f.rows f.pivot f.reduced;
      span = SameSpan-as_mat q m f.size n rows (grid_of f.rows) g (IsGrid-grid_of f.rows)
          (subst (λ z. IsInSpan z (as_mat q m n rows)) (sym (as_mat-grid_of f.rows)) f.spans)
          (subst (IsInSpan (as_mat q m n rows)) (sym (as_mat-grid_of f.rows)) f.spanned);
    }
