-- Two matrices with unit columns, at places that are together all columns, and whose rows are orthogonal: each spans just what the other is orthogonal to.
use Rattle.std.proofs.Common.{ℕ, ◌<◌, ◌≡◌, ◌≢◌, ◌⊎◌, inl, inr, sym, ap, ap₂, ◌∙◌}
use Rattle.linear_algebra.specs.Field.{Gf, mul}
use Rattle.linear_algebra.specs.FieldLaws.{mod-mul, mul_one, mul_zero, zero_mul}
use Rattle.linear_algebra.specs.Sums.{sum-single}
use Rattle.linear_algebra.specs.Matrix.{Mat, Row, Mat-eq_below, zeros, one, delta, delta-same, delta-other, ◌⊟◌, ◌·◌, transpose}
use Rattle.linear_algebra.specs.MatrixLaws.{one-at, transpose-at, mul_assoc_mat, mul_one_mat, mul_zeros, sub_mul_mat, sub_self_mat, sub_eq_zeros}
use Rattle.linear_algebra.specs.PartsLaws.{Row-eq}
use Rattle.linear_algebra.specs.Rank.{IsInSpan, HasRightInverse}
use Rattle.linear_algebra.specs.RowForm.{selector}
use Rattle.linear_algebra.proofs.RowForm.{mul_selector-at}

-- In row k the entry at place i is 1 where k is i, and else 0.
pub record HasUnitColumns {q : Gf} {m n : ℕ} (a : Mat q m n) (place : ℕ → ℕ) : Type 0 where
  pub inside : (i : ℕ) → i < m → place i < n
  pub unit : (k i : ℕ) → k < m → i < m → a.at k (place i) ≡ delta k i

module _ {q : Gf} {m n : ℕ} (a : Mat q m n) (place : ℕ → ℕ) (u : HasUnitColumns a place) where
  pub unit_selected : a · selector q n m place ≡ one q m
  unit_selected = Mat-eq_below _ _ (λ k i h l. mul_selector-at m a place k i l (u.inside i l) ∙ u.unit k i h l ∙ sym (one-at q m k i h))

  pub unit_independent : HasRightInverse a
  unit_independent = record { inverse = selector q n m place; is = unit_selected }

module _ {q : Gf} {a b n : ℕ} (A : Mat q a n) (s : ℕ → ℕ) (B : Mat q b n) (t : ℕ → ℕ) (u : HasUnitColumns A s) (v : HasUnitColumns B t)
    (each : (c : ℕ) → c < n → ((i : ℕ) × (i < a) × (s i ≡ c)) ⊎ ((j : ℕ) × (j < b) × (t j ≡ c))) where
  -- the product with row j of B has one term
  only_term : (x : Row q n) → ((i : ℕ) → i < a → x.at 0 (s i) ≡ 0) → (j : ℕ) → j < b → (x · transpose B).at 0 j ≡ x.at 0 (t j)
  unfolding ◌·◌
  only_term x z j l =
      sum-single q n (t j) _ (v.inside j l) (λ c h d. term c h d (each c h))
      ∙ mod-mul q (x.at 0 (t j)) _ ∙ ap (mul q (x.at 0 (t j))) (transpose-at B (t j) j ∙ v.unit j j l l ∙ delta-same j) ∙ mul_one q (x.at 0 (t j)) (x.fits.small 0 (t j))
    where
      term : (c : ℕ) → c < n → c ≢ t j → ((i : ℕ) × (i < a) × (s i ≡ c)) ⊎ ((j : ℕ) × (j < b) × (t j ≡ c)) → mul q (x.at 0 c) ((transpose B).at c j) ≡ 0
      term c h d (inl p) = ap (λ y. mul q y ((transpose B).at c j)) (ap (x.at 0) (sym p.2) ∙ z p.0 p.1) ∙ zero_mul q _
      term c h d (inr p) =
          ap (mul q (x.at 0 c)) (transpose-at B c j ∙ ap (B.at j) (sym p.2) ∙ v.unit j p.0 l p.1 ∙ delta-other j p.0 (λ e. d (sym p.2 ∙ ap t (sym e)))) ∙ mul_zero q _

  vanishes : (x : Row q n) → ((i : ℕ) → i < a → x.at 0 (s i) ≡ 0) → x · transpose B ≡ zeros q 1 b → x ≡ zeros q 1 n
  unfolding zeros
  vanishes x z e = Row-eq x (zeros q 1 n) (λ c h. here c h (each c h))
    where
      here : (c : ℕ) → c < n → ((i : ℕ) × (i < a) × (s i ≡ c)) ⊎ ((j : ℕ) × (j < b) × (t j ≡ c)) → x.at 0 c ≡ (zeros q 1 n).at 0 c
      here c h (inl p) = ap (x.at 0) (sym p.2) ∙ z p.0 p.1
      here c h (inr p) = ap (x.at 0) (sym p.2) ∙ sym (only_term x z p.0 p.1) ∙ ap (λ y. y.at 0 p.0) e

  pub unit_columns_span : A · transpose B ≡ zeros q a b → (x : Row q n) → x · transpose B ≡ zeros q 1 b → IsInSpan A x
  unfolding zeros
  unit_columns_span o x e =
      let c = x · selector q n a s in
      let y = x ⊟ c · A in
      let selected : y · selector q n a s ≡ zeros q 1 a =
      sub_mul_mat x (c · A) (selector q n a s) ∙ ap (λ w. c ⊟ w) (mul_assoc_mat c A (selector q n a s) ∙ ap (λ w. c · w) (unit_selected A s u) ∙ mul_one_mat c) ∙ sub_self_mat c in
      let orthogonal : y · transpose B ≡ zeros q 1 b =
      sub_mul_mat x (c · A) (transpose B) ∙ ap₂ (λ w z. w ⊟ z) e (mul_assoc_mat c A (transpose B) ∙ ap (λ w. c · w) o ∙ mul_zeros c) ∙ sub_self_mat (zeros q 1 b) in
      let none : y ≡ zeros q 1 n = vanishes y (λ i l. sym (mul_selector-at a y s 0 i l (u.inside i l)) ∙ ap (λ w. w.at 0 i) selected) orthogonal in
      record { by = c; is = sym (sub_eq_zeros x (c · A) none) }
