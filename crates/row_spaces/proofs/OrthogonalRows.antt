-- The rows of the free columns of a matrix in reduced row form are a basis of what its rows are orthogonal to.
use Rattle.std.proofs.Common.{ℕ, ◌<◌, ◌≡◌, ◌≢◌, ◌⊎◌, inl, inr, List, [], length, get_or, sym, ap, ap₂, ◌∙◌, arith}
use Rattle.std.proofs.lemmas.List.{length-map}
use Rattle.std.proofs.lemmas.Bool.{cases_eq, cases_lt, cases_order}
use Rattle.linear_algebra.specs.Field.{Gf, mul, neg}
use Rattle.linear_algebra.specs.FieldLaws.{neg_zero}
use Rattle.linear_algebra.specs.Sums.{sum-same}
use Rattle.linear_algebra.specs.Matrix.{Mat, Mat-eq_below, zeros, delta, delta-same, delta-other, ◌·◌, transpose}
use Rattle.linear_algebra.specs.MatrixLaws.{transpose-at, transpose_mul, transpose_transpose, transpose_zeros, delta_comm, mul_assoc_mat, mul_zeros, zeros_mul}
use Rattle.linear_algebra.specs.Rank.{IsInSpan}
use Rattle.linear_algebra.specs.RowForm.{IsRowReduced, IsCoReduced}
use Rattle.linear_algebra.specs.Rows.{IsGrid, list_of, rows_of, SameSpan}
use Rattle.linear_algebra.specs.Reduced.{pivot, pivots_of, IsReduced}
use Rattle.linear_algebra.specs.Separators.{dot}
use Rattle.linear_algebra.specs.Typed.{as_mat}
use Rattle.linear_algebra.proofs.Rows.{get_or-list_of, row-entry, IsInSpan-row}
use Rattle.linear_algebra.proofs.Reduced.{before_leading}
use Rattle.linear_algebra.proofs.RowFormUnique.{row_reduced-as_mat}
use Rattle.linear_algebra.proofs.SeparateRows.{functional-span}
use Rattle.linear_algebra.proofs.Solving.{in_span_trans}
use Rattle.linear_algebra.proofs.Typed.{as_mat-entry, same_span_forth, same_span_back}
use Rattle.fp_linear.specs.Slices.{cell, AreElements}
use Rattle.fp_linear.proofs.Cells.{cell-entry, IsGrid-rows_of}
use Rattle.fp_linear.proofs.LentProducts.{pivot_at}
use Rattle.row_spaces.specs.FreeColumns.{AreFree, AreFunctionals, IsOrthogonalBasis}
use Rattle.row_spaces.proofs.UnitColumns.{HasUnitColumns, unit_columns_span}

-- Orthogonal rows, seen from either side, and combinations of rows to which a row is orthogonal.
pub orthogonal_both : {q : Gf} {k m n : ℕ} (a : Mat q m n) (b : Mat q k n) → a · transpose b ≡ zeros q m k → b · transpose a ≡ zeros q k m
orthogonal_both {q} {k} {m} a b e =
    ap (λ y. y · transpose a) (sym (transpose_transpose b)) ∙ sym (transpose_mul a (transpose b)) ∙ ap transpose e ∙ transpose_zeros q m k

pub orthogonal_through : {q : Gf} {k l m n : ℕ} (f : Mat q m n) (e : Mat q k n) (x : Mat q l n) → IsInSpan f e → x · transpose f ≡ zeros q l m → x · transpose e ≡ zeros q l k
orthogonal_through f e x s z =
    ap (λ y. x · transpose y) (sym s.is) ∙ ap (λ y. x · y) (transpose_mul s.by f) ∙ sym (mul_assoc_mat x (transpose f) (transpose s.by)) ∙ ap (λ y. y · transpose s.by) z ∙ zeros_mul (transpose s.by)

reduced_unit : {q : Gf} {m n : ℕ} (a : Mat q m n) (p : ℕ → ℕ) → IsRowReduced a p → HasUnitColumns a p
reduced_unit a p d = record {
  inside = d.inside;
  unit = λ k i h l. elim (cases_eq k i) [
    | inl e ↦ ap (λ k. a.at k (p i)) e ∙ d.one i l ∙ sym (delta-same i) ∙ ap (λ k. delta k i) (sym e)
    | inr e ↦ d.cleared i k l h e ∙ sym (delta-other k i e)
  ];
}

module _ (q : Gf) (n r : ℕ) (form : List (List ℕ)) (pivots free s : List ℕ) (g : IsGrid q r n form) (red : IsReduced n form) (ps : pivots ≡ pivots_of form) (a : AreFree n pivots free)
    (f : AreFunctionals q n form free s) (small : AreElements q s) where
  abbrev reduced_rows : Mat q r n
  reduced_rows = as_mat q r n form

  abbrev functional_rows : Mat q (length free) n
  functional_rows = as_mat q (length free) n (rows_of (length free) n s)

  -- entry t of row j
  value-at : (j t : ℕ) → j < length free → t < n → functional_rows.at j t ≡ get_or (list_of n (cell n s j)) t 0
  value-at j t h l =
      as_mat-entry q (length free) n (rows_of (length free) n s) (IsGrid-rows_of q (length free) n s small) j t ∙ cell-entry (length free) n s j t h l
      ∙ sym (get_or-list_of n (cell n s j) t 0 l)

  pivot_is : (i : ℕ) → i < length form → get_or pivots i 0 ≡ pivot form i
  pivot_is i h = pivot_at form pivots i ps h

  count_is : length pivots ≡ length form
  unfolding pivots_of
  count_is = ap length ps ∙ length-map form _

  not_pivot : (j : ℕ) → j < length free → (i : ℕ) → i < length form → pivot form i ≢ get_or free j 0
  not_pivot j h i l e = a.apart i j (let c = count_is in omega arith) h (pivot_is i l ∙ e)

  at_free : (j i : ℕ) → j < length free → i < length free → functional_rows.at j (get_or free i 0) ≡ delta j i
  at_free j i h l = elim (cases_eq j i) [
    | inl e ↦ value-at j (get_or free i 0) h (a.inside i l) ∙ ap (λ t. get_or (list_of n (cell n s j)) (get_or free t 0) 0) (sym e) ∙ (f.each j h).at_column ∙ sym (delta-same j) ∙ ap (delta j) e
    | inr e ↦
        value-at j (get_or free i 0) h (a.inside i l)
        ∙ (f.each j h).elsewhere (get_or free i 0) (a.inside i l) (λ x. apart j i h l e (sym x)) (not_pivot i l)
        ∙ sym (delta-other j i e)
  ]
    where
      apart : (j i : ℕ) → j < length free → i < length free → j ≢ i → get_or free j 0 ≢ get_or free i 0
      apart j i h l e x = elim (cases_order j i) [
        | inl same ↦ e same
        | inr o ↦ elim o [ inl b ↦ (let k = a.further j i b l in omega arith) | inr b ↦ (let k = a.further i j b h in omega arith) ]
      ]

  functional_unit : HasUnitColumns functional_rows (λ j. get_or free j 0)
  functional_unit = record { inside = λ j h. a.inside j h; unit = λ k i h l. at_free k i h l }

  each_column : (t : ℕ) → t < n → ((i : ℕ) × (i < r) × (pivot form i ≡ t)) ⊎ ((j : ℕ) × (j < length free) × (get_or free j 0 ≡ t))
  each_column t h = elim (a.each t h) [
    | inl p ↦ inl (p.0, (let c = count_is in let d = g.count in let b = p.1 in omega arith), sym (pivot_is p.0 (let c = count_is in let b = p.1 in omega arith)) ∙ p.2)
    | inr p ↦ inr p
  ]

  other_way : (t : ℕ) → t < n → ((j : ℕ) × (j < length free) × (get_or free j 0 ≡ t)) ⊎ ((i : ℕ) × (i < r) × (pivot form i ≡ t))
  other_way t h = elim (each_column t h) [ inl p ↦ inr p | inr p ↦ inl p ]

  orthogonal : reduced_rows · transpose functional_rows ≡ zeros q r (length free)
  unfolding ◌·◌ zeros dot
  orthogonal = Mat-eq_below _ _ (λ i j h l.
      sum-same q n _ _ (λ t b. ap₂ (mul q) (as_mat-entry q r n form g i t ∙ sym (row-entry form i t)) (transpose-at functional_rows t j ∙ value-at j t l b))
      ∙ functional-span q r n (get_or free j 0) form (list_of n (cell n s j)) (get_or form i []) g red (f.each j l) (a.inside j l) (not_pivot j l) (IsInSpan-row q r n form i g h))

  coreduced : IsCoReduced (transpose functional_rows) (λ j. get_or free j 0)
  coreduced = record {
    inside = λ j h. a.inside j h;
    unit = λ i k h l. transpose-at functional_rows (get_or free i 0) k ∙ at_free k i l h ∙ delta_comm k i;
    further = λ i k h l. a.further i k h l;
    after = λ i t h l. transpose-at functional_rows t i ∙ elim (cases_lt t n) [
      | inl b ↦ behind i t h l b
      | inr b ↦ functional_rows.fits.right i t b
    ];
  }
    where
      behind : (i t : ℕ) → i < length free → get_or free i 0 < t → t < n → functional_rows.at i t ≡ 0
      behind i t h l b = value-at i t h b ∙ elim (each_column t b) [
        | inl p ↦
            ap (λ t. get_or (list_of n (cell n s i)) t 0) (sym p.2) ∙ (f.each i h).at_pivot p.0 (let c = g.count in let o = p.1 in omega arith)
            ∙ ap (neg q) (sym (row-entry form p.0 (get_or free i 0)) ∙ before_leading (get_or form p.0 []) (get_or free i 0) (let e = p.2 in omega arith)) ∙ neg_zero q
        | inr p ↦
            (f.each i h).elsewhere t b (λ e. omega arith) (λ k o e. not_pivot p.0 p.1 k o (e ∙ sym p.2))
      ]

-- From the reduced rows to the rows that they come from.
pub orthogonal_basis : (q : Gf) (m n r : ℕ) (rows form : List (List ℕ)) (pivots free s : List ℕ) → IsGrid q m n rows → IsGrid q r n form → IsReduced n form → SameSpan q n rows form → pivots ≡ pivots_of form
    → AreFree n pivots free → AreFunctionals q n form free s → AreElements q s → IsOrthogonalBasis (as_mat q m n rows) (as_mat q (length free) n (rows_of (length free) n s))
orthogonal_basis q m n r rows form pivots free s h g red span ps a f small =
    let E = as_mat q r n form in
    let F = as_mat q m n rows in
    let K = as_mat q (length free) n (rows_of (length free) n s) in
    let by_form : IsInSpan E F = same_span_forth q m r n rows form h g span in
    let by_rows : IsInSpan F E = same_span_back q m r n rows form h g span in
    let unit = functional_unit q n r form pivots free s g red ps a f small in
    let zero : E · transpose K ≡ zeros q r (length free) = orthogonal q n r form pivots free s g red ps a f small in
    let back : K · transpose E ≡ zeros q (length free) r = orthogonal_both E K zero in
    record {
      place = λ j. get_or free j 0;
      coreduced = coreduced q n r form pivots free s g red ps a f small;
      orthogonal = ap (λ y. y · transpose K) (sym by_form.is) ∙ mul_assoc_mat by_form.by E (transpose K) ∙ ap (λ y. by_form.by · y) zero ∙ mul_zeros by_form.by;
      spans = λ x e. unit_columns_span K (λ j. get_or free j 0) E (pivot form) unit (reduced_unit E (pivot form) (row_reduced-as_mat q r n form g red))
          (other_way q n r form pivots free s g red ps a f small) back x (orthogonal_through F E x by_rows e);
      back = λ x e. in_span_trans F E x by_rows
          (unit_columns_span E (pivot form) K (λ j. get_or free j 0) (reduced_unit E (pivot form) (row_reduced-as_mat q r n form g red)) unit (each_column q n r form pivots free s g red ps a f small) zero x e);
    }
