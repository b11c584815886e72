-- Whether a power of an ideal is zero is decided; the least such power; the same ideal by other rows.
use Rattle.std.proofs.Common.{ℕ, zero, suc, ◌<◌, ◌≤◌, ◌⊎◌, inl, inr, sym, ap, ◌∙◌, arith}
use Rattle.std.proofs.lemmas.Bool.{cases_lt}
use Rattle.linear_algebra.specs.Field.{Gf}
use Rattle.linear_algebra.specs.Matrix.{Mat, zeros}
use Rattle.linear_algebra.specs.Parts.{row}
use Rattle.linear_algebra.specs.Rank.{IsInSpan}
use Rattle.linear_algebra.proofs.Search.{first_or_all}
use Rattle.linear_algebra.proofs.Solving.{equal_or_not, in_span_self, in_span_trans, row_in_span}
use Rattle.linear_algebra.proofs.NilOrFixed.{whole, images}
use Rattle.linear_algebra.proofs.FamilyPowers.{images_vanish, vanishing_images}
use Rattle.local_modules.specs.Algebra.{Algebra}
use Rattle.local_modules.specs.Ideal.{IsTwoSided, PowerVanishes, IsLeastPower}
use Rattle.local_modules.proofs.AlgebraLaws.{right_matrix, right_matrix-zeros, right_matrix_injective, product_in-last, zeros_product}
use Rattle.local_modules.proofs.NilIdeals.{right_matrix-product_in, matrix_in_span}

module _ {q : Gf} (A : Algebra q) {k : ℕ} (I : Mat q k A.size) where
  pub power_or_not : (s : ℕ) → PowerVanishes A I s ⊎ (PowerVanishes A I s → ⊥)
  power_or_not s = elim (equal_or_not (images k (λ j. right_matrix A (row j I)) (whole q A.size) s).basis (zeros q (images k (λ j. right_matrix A (row j I)) (whole q A.size) s).size A.size)) [
    | inl z ↦ inl (λ h m. right_matrix_injective A _ _
        (right_matrix-product_in A h s ∙ vanishing_images k (λ j. right_matrix A (row j I)) s z (λ i. right_matrix A (h i)) (λ i l. matrix_in_span A I (h i) (m i l)) ∙ sym (right_matrix-zeros A)))
    | inr n ↦ inr (λ v. n (images_vanish k (λ j. right_matrix A (row j I)) s (λ w b.
        sym (right_matrix-product_in A (λ i. row (w i) I) s) ∙ ap (right_matrix A) (v (λ i. row (w i) I) (λ i l. row_in_span I I (w i) (in_span_self I))) ∙ right_matrix-zeros A)))
  ]

  power_next : (s : ℕ) → PowerVanishes A I s → PowerVanishes A I (suc s)
  power_next s v h m = product_in-last A h s ∙ ap (λ z. A.product z (h s)) (v h (λ i l. m i (omega arith))) ∙ zeros_product A (h s)

  -- Where some power is zero there is a least one.
  pub least_power : (s : ℕ) → PowerVanishes A I s → (t : ℕ) × IsLeastPower A I t
  least_power s v = go (first_or_all (suc s) (λ i. PowerVanishes A I (suc i)) (λ i. PowerVanishes A I (suc i) → ⊥) (λ i. power_or_not (suc i)))
    where
      go : ((i : ℕ) × (i < suc s) × PowerVanishes A I (suc i) × ((j : ℕ) → j < i → PowerVanishes A I (suc j) → ⊥)) ⊎ ((i : ℕ) → i < suc s → PowerVanishes A I (suc i) → ⊥) → (t : ℕ) × IsLeastPower A I t
      go (inl f) = (suc f.0, record { positive = omega arith; vanishes = f.2; least = λ t p u. smallest f.0 f.3 t p u })
        where
          smallest : (i : ℕ) → ((j : ℕ) → j < i → PowerVanishes A I (suc j) → ⊥) → (t : ℕ) → 1 ≤ t → PowerVanishes A I t → suc i ≤ t
          smallest i b zero p u = absurd (let bad : 1 ≤ 0 = p in omega arith)
          smallest i b (suc t) p u = elim (cases_lt t i) [ inl l ↦ absurd (b t l u) | inr l ↦ omega arith ]
      go (inr n) = absurd (n s (omega arith) (power_next s v))

-- The same ideal by other rows.
module _ {q : Gf} (A : Algebra q) {k l : ℕ} (I : Mat q k A.size) (J : Mat q l A.size) (forth : IsInSpan I J) (back : IsInSpan J I) where
  pub two_sided_same : IsTwoSided A I → IsTwoSided A J
  two_sided_same t = record {
    left = λ a x s. in_span_trans J I (A.product a x) back (t.left a x (in_span_trans I J x forth s));
    right = λ a x s. in_span_trans J I (A.product x a) back (t.right a x (in_span_trans I J x forth s));
  }

  pub power_same : (s : ℕ) → PowerVanishes A I s → PowerVanishes A J s
  power_same s v h m = v h (λ i b. in_span_trans I J (h i) forth (m i b))
