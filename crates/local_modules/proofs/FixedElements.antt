-- Elements that are their own q-th power: the product of all y − c is zero, so they are not all invertible. Whether all such elements are
-- multiples of 1, and whether taking q-th powers is injective, is decided.
use Rattle.std.proofs.Common.{ℕ, zero, suc, ◌<◌, ◌≤◌, ◌≡◌, ◌≢◌, ◌⊎◌, inl, inr, sym, ap, ap₂, ◌∙◌, arith, subst}
use Rattle.linear_algebra.specs.Field.{Gf, order}
use Rattle.linear_algebra.specs.Matrix.{zeros, one, ◌⊟◌, ◌⊙◌, ◌·◌}
use Rattle.linear_algebra.specs.Rank.{HasInverse}
use Rattle.linear_algebra.specs.Powers.{shifts}
use Rattle.linear_algebra.proofs.MatrixLaws.{mul_zeros, mul_one_mat, mul_sub_mat, mul_scale, sub_eq_zeros, sub_self_mat, zeros_mul}
use Rattle.linear_algebra.proofs.PartsLaws.{equal_on_rows}
use Rattle.linear_algebra.proofs.Frobenius.{product_of_shifts}
use Rattle.linear_algebra.proofs.Inverses.{one_inverse, inverse_product}
use Rattle.linear_algebra.proofs.Search.{search_or_all}
use Rattle.linear_algebra.proofs.Solving.{equal_or_not}
use Rattle.local_modules.specs.Algebra.{Algebra, Element, power_in, IsUnitIn}
use Rattle.local_modules.proofs.AlgebraLaws.{right_matrix, mul-right_matrix, right_matrix-product, right_matrix-unit, right_matrix-power, product_difference, linear_difference}
use Rattle.local_modules.proofs.FrobeniusFields.{frobenius_linear}
use Rattle.local_modules.proofs.SearchRows.{search_rows}

module _ {q : Gf} (A : Algebra q) where
  pub matrix_of_unit : (x : Element A) → IsUnitIn A x → HasInverse (right_matrix A x)
  matrix_of_unit x i = record {
    inverse = right_matrix A i.inverse;
    right = sym (right_matrix-product A x i.inverse) ∙ ap (right_matrix A) i.right ∙ right_matrix-unit A;
    left = sym (right_matrix-product A i.inverse x) ∙ ap (right_matrix A) i.left ∙ right_matrix-unit A;
  }

  shift_matrix : (y : Element A) (c : ℕ) → right_matrix A (y ⊟ c ⊙ A.unit) ≡ right_matrix A y ⊟ c ⊙ one q A.size
  shift_matrix y c = equal_on_rows _ _ (λ z.
      mul-right_matrix A z (y ⊟ c ⊙ A.unit) ∙ product_difference A z y (c ⊙ A.unit)
      ∙ ap₂ (λ u v. u ⊟ v) (sym (mul-right_matrix A z y)) (A.product_multiple c z A.unit ∙ ap (λ u. c ⊙ u) (A.product_unit z ∙ sym (mul_one_mat z)) ∙ sym (mul_scale c z (one q A.size)))
      ∙ sym (mul_sub_mat z (right_matrix A y) (c ⊙ one q A.size)))

  module _ (y : Element A) (units : (c : ℕ) → c < order q → IsUnitIn A (y ⊟ c ⊙ A.unit)) where
    shifts_inverse : (k : ℕ) → k ≤ order q → HasInverse (shifts (right_matrix A y) k)
    unfolding shifts
    shifts_inverse zero h = one_inverse q A.size
    shifts_inverse (suc k) h = inverse_product (right_matrix A y ⊟ k ⊙ one q A.size) (shifts (right_matrix A y) k)
        (subst HasInverse (shift_matrix y k) (matrix_of_unit (y ⊟ k ⊙ A.unit) (units k (omega arith)))) (shifts_inverse k (omega arith))

    -- Where y is its own q-th power, not all y − c are invertible.
    pub shifts_not_all_units : A.unit ≢ zeros q 1 A.size → power_in A y (order q) ≡ y → ⊥
    shifts_not_all_units nonzero e = nonzero (none (subst HasInverse null (shifts_inverse (order q) (omega arith))))
      where
        null : shifts (right_matrix A y) (order q) ≡ zeros q A.size A.size
        null = product_of_shifts (right_matrix A y) (sym (right_matrix-power A y (order q)) ∙ ap (right_matrix A) e)

        none : HasInverse (zeros q A.size A.size) → A.unit ≡ zeros q 1 A.size
        none i = sym (mul_one_mat A.unit) ∙ ap (λ z. A.unit · z) (sym i.right ∙ zeros_mul i.inverse) ∙ mul_zeros A.unit

  -- An element is a multiple of 1, or is none.
  scalar_or_not : (y : Element A) → ((c : ℕ) × (y ≡ c ⊙ A.unit)) ⊎ ((c : ℕ) → c < order q → y ≢ c ⊙ A.unit)
  scalar_or_not y = elim (search_or_all (order q) (λ c. y ≡ c ⊙ A.unit) (λ c. y ≢ c ⊙ A.unit) (λ c. equal_or_not y (c ⊙ A.unit))) [ inl f ↦ inl (f.0, f.2) | inr n ↦ inr n ]

  -- Some element that is its own q-th power is no multiple of 1, or all are.
  pub fixed_or_scalars : ((y : Element A) × (power_in A y (order q) ≡ y) × ((c : ℕ) → c < order q → y ≢ c ⊙ A.unit)) ⊎ ((y : Element A) → power_in A y (order q) ≡ y → (c : ℕ) × (y ≡ c ⊙ A.unit))
  fixed_or_scalars = elim (search_rows A.size (λ (y : Element A). (power_in A y (order q) ≡ y) × ((c : ℕ) → c < order q → y ≢ c ⊙ A.unit)) (λ (y : Element A). power_in A y (order q) ≡ y → (c : ℕ) × (y ≡ c ⊙ A.unit)) each) [
    | inl s ↦ inl (s.0, s.1.0, s.1.1)
    | inr n ↦ inr n
  ]
    where
      each : (y : Element A) → ((power_in A y (order q) ≡ y) × ((c : ℕ) → c < order q → y ≢ c ⊙ A.unit)) ⊎ (power_in A y (order q) ≡ y → (c : ℕ) × (y ≡ c ⊙ A.unit))
      each y = elim (equal_or_not (power_in A y (order q)) y) [
        | inl e ↦ elim (scalar_or_not y) [ inl s ↦ inr (λ e. s) | inr n ↦ inl (e, n) ]
        | inr n ↦ inr (λ e. absurd (n e))
      ]

  -- Some element but zero has q-th power zero, or, in a commutative algebra, taking q-th powers is injective.
  pub root_or_injective : ((x y : Element A) → A.product x y ≡ A.product y x)
      → ((y : Element A) × (y ≢ zeros q 1 A.size) × (power_in A y (order q) ≡ zeros q 1 A.size)) ⊎ ((x y : Element A) → power_in A x (order q) ≡ power_in A y (order q) → x ≡ y)
  root_or_injective commutes = elim (search_rows A.size (λ (y : Element A). (y ≢ zeros q 1 A.size) × (power_in A y (order q) ≡ zeros q 1 A.size)) (λ (y : Element A). power_in A y (order q) ≡ zeros q 1 A.size → y ≡ zeros q 1 A.size) each) [
    | inl s ↦ inl (s.0, s.1.0, s.1.1)
    | inr n ↦ inr (λ x y e. sub_eq_zeros x y (n (x ⊟ y)
        (linear_difference A (λ (z : Element A). power_in A z (order q)) (frobenius_linear A commutes) x y ∙ ap (λ z. z ⊟ power_in A y (order q)) e ∙ sub_self_mat (power_in A y (order q)))))
  ]
    where
      each : (y : Element A) → ((y ≢ zeros q 1 A.size) × (power_in A y (order q) ≡ zeros q 1 A.size)) ⊎ (power_in A y (order q) ≡ zeros q 1 A.size → y ≡ zeros q 1 A.size)
      each y = elim (equal_or_not y (zeros q 1 A.size)) [
        | inl z ↦ inr (λ e. z)
        | inr n ↦ elim (equal_or_not (power_in A y (order q)) (zeros q 1 A.size)) [ inl e ↦ inl (n, e) | inr m ↦ inr (λ e. absurd (m e)) ]
      ]
