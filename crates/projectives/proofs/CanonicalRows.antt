-- The basis rows at the columns without pivot are independent modulo the radical, and span the module modulo the radical.
use Rattle.std.proofs.Common.{ℕ, zero, suc, ◌<◌, ◌≡◌, ◌≢◌, Bool, true, false, eqb, inl, inr, refl, sym, ap, ◌∙◌, arith, subst, not-suc-le-zero, mod-eq_of_lt, eq-eqb, ne_eqb}
use Rattle.std.proofs.lemmas.Bool.{cases_eq, cases_lt, cond-true, cond-false, false≢true}
use Rattle.linear_algebra.specs.Field.{Gf, mul, sub}
use Rattle.linear_algebra.specs.FieldLaws.{mul_zero, mul_one, mod-mul, sub_self}
use Rattle.linear_algebra.specs.Sums.{sum-single, sum-zeros}
use Rattle.linear_algebra.specs.Matrix.{Mat, Mat-eq_below, Row, made, zeros, ◌⊞◌, ◌⊟◌, ◌·◌}
use Rattle.linear_algebra.specs.Parts.{unit}
use Rattle.linear_algebra.specs.RowForm.{ReducedForm, selector}
use Rattle.linear_algebra.proofs.MatrixLaws.{zeros_mul, sub_add_mat, sub-at}
use Rattle.linear_algebra.proofs.PartsLaws.{Row-eq, made-at}
use Rattle.linear_algebra.proofs.Solving.{in_span_trans, in_span_mul}
use Rattle.linear_algebra.proofs.RowForm.{reduced_form, mul_selector-at}
use Rattle.linear_algebra.proofs.RowFormUnique.{combination-at}
use Rattle.representations.specs.Quiver.{Quiver}
use Rattle.representations.specs.Rep.{Rep}
use Rattle.representations.specs.Radical.{IsInRadical}
use Rattle.representations.specs.RadicalModule.{arrow_rows}
use Rattle.representations.proofs.MatrixExtras.{zero_columns}
use Rattle.representations.proofs.Radical.{radical-zeros}
use Rattle.representations.proofs.RadicalModule.{radical_in_span, span_in_radical}
use Rattle.projectives.specs.Generators.{placed, rows_at, IsIndependentModuloRadical, IsInSpanModuloRadical, SpansModuloRadical}
use Rattle.projectives.specs.Canonical.{is_among, is_pivot}
use Rattle.projectives.proofs.Units.{unit_same, unit_other}
use Rattle.projectives.proofs.Generators.{rows_at-at, rows_at-here, rows_at-elsewhere}
use Rattle.projectives.proofs.CanonicalPlaces.{IsListOfFree}

pub is_among-true : (n : ℕ) (pivot : ℕ → ℕ) (c : ℕ) → is_among n pivot c ≡ true → (i : ℕ) × (i < n) × (pivot i ≡ c)
is_among-true zero pivot c e = absurd (false≢true e)
is_among-true (suc n) pivot c e = elim (cases_eq (pivot n) c) [
  | inl s ↦ (n, omega arith, s)
  | inr d ↦ let r = is_among-true n pivot c (sym (cond-false (eqb (pivot n) c) true (is_among n pivot c) (ne_eqb (pivot n) c d)) ∙ e) in (r.0, (let b = r.1 in omega arith), r.2)
]

pub is_among-false : (n : ℕ) (pivot : ℕ → ℕ) (c : ℕ) → is_among n pivot c ≡ false → (i : ℕ) → i < n → pivot i ≢ c
is_among-false zero pivot c e i h s = not-suc-le-zero h
is_among-false (suc n) pivot c e i h s = elim (cases_eq (pivot n) c) [
  | inl t ↦ false≢true (sym e ∙ cond-true (eqb (pivot n) c) true (is_among n pivot c) (eq-eqb (pivot n) c t))
  | inr d ↦ elim (cases_eq i n) [
    | inl t ↦ d (ap pivot (sym t) ∙ s)
    | inr t ↦ is_among-false n pivot c (sym (cond-false (eqb (pivot n) c) true (is_among n pivot c) (ne_eqb (pivot n) c d)) ∙ e) i (omega arith) s
  ]
]

module _ {q : Gf} {Q : Quiver} (X : Rep q Q) where
  form : (w : ℕ) → ReducedForm (arrow_rows X w)
  form w = reduced_form (arrow_rows X w)

  pivot_there : (w c : ℕ) → is_pivot X w c ≡ true → (i : ℕ) × (i < (form w).size) × ((form w).pivot i ≡ c)
  unfolding is_pivot form
  pivot_there w c e = is_among-true _ _ c e

  no_pivot : (w c : ℕ) → is_pivot X w c ≡ false → (i : ℕ) → i < (form w).size → (form w).pivot i ≢ c
  unfolding is_pivot form
  no_pivot w c e = is_among-false _ _ c e

  -- The rows at a vertex depend on the first k rows alone.
  pub rows_at-same : (k : ℕ) (v : ℕ → ℕ) (x y : (j : ℕ) → Row q (X.dim (v j))) → ((j : ℕ) → j < k → x j ≡ y j) → (w : ℕ) → rows_at X k v x w ≡ rows_at X k v y w
  rows_at-same k v x y e w = Mat-eq_below _ _ (λ t i h l.
      rows_at-at X k v x w t i h ∙ ap (λ z. (placed X (v t) w (cases_eq (v t) w) z).at 0 i) (e t h) ∙ sym (rows_at-at X k v y w t i h))

  pub independent_same : (k : ℕ) (v : ℕ → ℕ) (x y : (j : ℕ) → Row q (X.dim (v j))) → ((j : ℕ) → j < k → x j ≡ y j) → IsIndependentModuloRadical X k v x → IsIndependentModuloRadical X k v y
  independent_same k v x y e independent w b c r = independent w b c (subst (λ z. IsInRadical X w (c · z)) (sym (rows_at-same k v x y e w)) r)

  pub spans_same : (k : ℕ) (v : ℕ → ℕ) (x y : (j : ℕ) → Row q (X.dim (v j))) → ((j : ℕ) → j < k → x j ≡ y j) → SpansModuloRadical X k v x → SpansModuloRadical X k v y
  spans_same k v x y e span w z = subst (λ (f : Mat q k (X.dim w)). IsInSpanModuloRadical X w f z) (rows_at-same k v x y e w) (span w z)

  module _ (k : ℕ) (v column : ℕ → ℕ) (H : IsListOfFree X k v column) where
    abbrev pub free_row : (j : ℕ) → Row q (X.dim (v j))
    free_row j = unit q (X.dim (v j)) (column j)

    free_rows : (w : ℕ) → Mat q k (X.dim w)
    free_rows w = rows_at X k v free_row w

    free_row-at : (w t c : ℕ) → t < k → v t ≡ w → (free_rows w).at t c ≡ (unit q (X.dim w) (column t)).at 0 c
    unfolding free_rows
    free_row-at w t c h e = rows_at-here X k v free_row w t c h e ∙ ap (λ w. (unit q (X.dim w) (column t)).at 0 c) e

    inside_at : (w t : ℕ) → t < k → v t ≡ w → column t < X.dim w
    inside_at w t h e = subst (λ w. column t < X.dim w) e (H.inside t h)

    -- A combination has its coefficients at the free columns, and zeros at the pivots.
    at_free : (w : ℕ) (c : Row q k) (j : ℕ) → j < k → v j ≡ w → (c · free_rows w).at 0 (column j) ≡ c.at 0 j
    unfolding ◌·◌ free_rows
    at_free w c j h e =
        sum-single q k j _ h (λ t l d. ap (mul q (c.at 0 t)) (elim (cases_eq (v t) w) [
          | inl f ↦ free_row-at w t (column j) l f ∙ unit_other q (X.dim w) (column t) (column j) (inside_at w t l f) (λ s. d (H.once t j l h (f ∙ sym e) s))
          | inr f ↦ rows_at-elsewhere X k v free_row w t (column j) l f
        ]) ∙ mul_zero q (c.at 0 t))
        ∙ mod-mul q (c.at 0 j) _ ∙ ap (mul q (c.at 0 j)) (free_row-at w j (column j) h e ∙ unit_same q (X.dim w) (column j) (inside_at w j h e))
        ∙ mul_one q (c.at 0 j) (c.fits.small 0 j)

    at_pivot : (w : ℕ) (c : Row q k) (i : ℕ) → i < (form w).size → (c · free_rows w).at 0 ((form w).pivot i) ≡ 0
    unfolding ◌·◌ free_rows
    at_pivot w c i h = sum-zeros q k _ (λ t l. ap (mul q (c.at 0 t)) (elim (cases_eq (v t) w) [
      | inl f ↦
          free_row-at w t ((form w).pivot i) l f
          ∙ unit_other q (X.dim w) (column t) ((form w).pivot i) (inside_at w t l f)
          (λ s. no_pivot w (column t) (subst (λ w. is_pivot X w (column t) ≡ false) f (H.free t l)) i h (sym s))
      | inr f ↦ rows_at-elsewhere X k v free_row w t ((form w).pivot i) l f
    ]) ∙ mul_zero q (c.at 0 t))

    pub free_independent : IsIndependentModuloRadical X k v free_row
    unfolding form free_rows zeros
    free_independent w b c r j h e =
        let s = in_span_trans (form w).rows (arrow_rows X w) (c · free_rows w) (form w).spans (radical_in_span r) in
        let none : s.by ≡ zeros q 1 (form w).size = Row-eq _ _ (λ i l.
        sym (combination-at (form w).rows (form w).pivot (form w).reduced s.by i l) ∙ ap (λ (z : Row q (X.dim w)). z.at 0 ((form w).pivot i)) s.is ∙ at_pivot w c i l) in
        let vanishes : c · free_rows w ≡ zeros q 1 (X.dim w) = sym s.is ∙ ap (λ z. z · (form w).rows) none ∙ zeros_mul (form w).rows in
        sym (at_free w c j h e) ∙ ap (λ (z : Row q (X.dim w)). z.at 0 (column j)) vanishes

    -- What is left of a row, when the radical's rows have cleared its entries at the pivots.
    module _ (w : ℕ) (b : w < Q.vertices) (y : Row q (X.dim w)) where
      heads : Row q (form w).size
      heads = y · selector q (X.dim w) (form w).size (form w).pivot

      cleared : Row q (X.dim w)
      cleared = y ⊟ heads · (form w).rows

      cleared_at_pivot : (i : ℕ) → i < (form w).size → cleared.at 0 ((form w).pivot i) ≡ 0
      unfolding cleared heads
      cleared_at_pivot i h =
          sub-at y (heads · (form w).rows) 0 ((form w).pivot i)
          ∙ ap (sub q (y.at 0 ((form w).pivot i)))
          (combination-at (form w).rows (form w).pivot (form w).reduced heads i h
          ∙ mul_selector-at (form w).size y (form w).pivot 0 i h ((form w).reduced.inside i h))
          ∙ sub_self q (y.at 0 ((form w).pivot i))

      coefficients : Row q k
      coefficients = made q 1 k (λ i j. cleared.at 0 (column j))

      combined : coefficients · free_rows w ≡ cleared
      unfolding coefficients
      combined = Row-eq _ _ (λ l h. by_case l h (is_pivot X w l) refl)
        where
          by_case : (l : ℕ) → l < X.dim w → (t : Bool) → is_pivot X w l ≡ t → (coefficients · free_rows w).at 0 l ≡ cleared.at 0 l
          by_case l h true e =
              let p = pivot_there w l e in
              ap ((coefficients · free_rows w).at 0) (sym p.2) ∙ at_pivot w coefficients p.0 p.1 ∙ sym (cleared_at_pivot p.0 p.1) ∙ ap (cleared.at 0) p.2
          by_case l h false e =
              let p = H.has w l b h e in
              ap ((coefficients · free_rows w).at 0) (sym p.3) ∙ at_free w coefficients p.0 p.1 p.2
              ∙ made-at q 1 k (λ i j. cleared.at 0 (column j)) 0 p.0 (omega arith) p.1 ∙ mod-eq_of_lt (cleared.fits.small 0 (column p.0)) ∙ ap (cleared.at 0) p.3

      spanned_there : IsInSpanModuloRadical X w (rows_at X k v free_row w) y
      unfolding free_rows cleared form
      spanned_there = record {
        by = coefficients;
        rest = heads · (form w).rows;
        in_radical = span_in_radical (heads · (form w).rows) (in_span_trans (arrow_rows X w) (form w).rows (heads · (form w).rows) (form w).spanned (in_span_mul (form w).rows heads));
        is = ap (λ z. z ⊞ heads · (form w).rows) combined ∙ sub_add_mat y (heads · (form w).rows);
      }

    pub free_span : SpansModuloRadical X k v free_row
    free_span w y = elim (cases_lt w Q.vertices) [
      | inl b ↦ spanned_there w b y
      | inr b ↦ record { by = zeros q 1 k; rest = zeros q 1 (X.dim w); in_radical = radical-zeros 1 w; is = zero_columns (X.past w b) _ ∙ sym (zero_columns (X.past w b) y) }
    ]
