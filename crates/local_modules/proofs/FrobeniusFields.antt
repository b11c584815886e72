-- Commutative algebras over a field of q elements: q-th powers are additive; where taking q-th powers is injective and its fixed elements are the
-- multiples of one element, each element but zero is invertible.
use Rattle.std.proofs.Common.{ℕ, zero, suc, ◌-◌, ◌*◌, ◌%◌, ◌≤◌, ◌≡◌, ◌≢◌, ◌⊎◌, inl, inr, sym, ap, ap₂, ◌∙◌, arith, mod-lt, mul-le-mul_right, mul_comm}
use Rattle.std.proofs.lemmas.Bool.{cases_eq}
use Rattle.linear_algebra.specs.Field.{Gf, order, mul, inv}
use Rattle.linear_algebra.specs.FieldLaws.{one-lt-order, order-pos, inv_mul}
use Rattle.linear_algebra.specs.Matrix.{Mat, zeros, ◌⊞◌, ◌⊙◌, ◌·◌}
use Rattle.linear_algebra.specs.Powers.{mat_power}
use Rattle.linear_algebra.specs.LinearMaps.{IsLinear}
use Rattle.linear_algebra.proofs.MatrixLaws.{mul_add_mat, mul_scale, scale_scale, scale-mod, zero_scale, one_scale}
use Rattle.linear_algebra.proofs.Frobenius.{frobenius_sum, frobenius_multiple}
use Rattle.local_modules.specs.Algebra.{Algebra, Element, power_in, IsUnitIn, IsNilpotentIn}
use Rattle.local_modules.proofs.AlgebraLaws.{zeros_product, power_in-zero, power_in-suc, power_in-one, power_in-last, power_in-power, power_past, right_matrix, right_matrix-product, right_matrix-sum, right_matrix-multiple, power_is, settles, unit_of_left}

-- The multiple of an element by a number is zero or can be undone.
pub scalar_or_zero : (q : Gf) (m n c : ℕ) → ((a : Mat q m n) → c ⊙ a ≡ zeros q m n) ⊎ ((d : ℕ) × ((a : Mat q m n) → d ⊙ (c ⊙ a) ≡ a))
scalar_or_zero q m n c = elim (cases_eq (c % order q) 0) [
  | inl e ↦ inl (λ a. sym (scale-mod c a) ∙ ap (λ z. z ⊙ a) e ∙ zero_scale a)
  | inr e ↦ inr (
    inv q (c % order q),
    λ a.
        ap (λ z. inv q (c % order q) ⊙ z) (sym (scale-mod c a)) ∙ scale_scale (inv q (c % order q)) (c % order q) a ∙ ap (λ z. z ⊙ a) (inv_mul q (c % order q) (mod-lt c (order-pos q)) e) ∙ one_scale a,
  )
]

module _ {q : Gf} (A : Algebra q) where
  pub power_of_unit : (k : ℕ) → power_in A A.unit k ≡ A.unit
  power_of_unit zero = power_in-zero A A.unit
  power_of_unit (suc k) = power_in-suc A A.unit k ∙ A.unit_product (power_in A A.unit k) ∙ power_of_unit k

  pub power_of_zeros : (k : ℕ) → 1 ≤ k → power_in A (zeros q 1 A.size) k ≡ zeros q 1 A.size
  power_of_zeros zero h = absurd (let bad : 1 ≤ 0 = h in omega arith)
  power_of_zeros (suc k) h = power_in-suc A (zeros q 1 A.size) k ∙ zeros_product A (power_in A (zeros q 1 A.size) k)

  pub power_of_idempotent : (w : Element A) → A.product w w ≡ w → (k : ℕ) → power_in A w (suc k) ≡ w
  power_of_idempotent w e zero = power_in-one A w
  power_of_idempotent w e (suc k) = power_in-suc A w (suc k) ∙ ap (A.product w) (power_of_idempotent w e k) ∙ e

  module _ (commutes : (x y : Element A) → A.product x y ≡ A.product y x) where
    matrices_commute : (x y : Element A) → right_matrix A x · right_matrix A y ≡ right_matrix A y · right_matrix A x
    matrices_commute x y = sym (right_matrix-product A x y) ∙ ap (right_matrix A) (commutes x y) ∙ right_matrix-product A y x

    -- Taking q-th powers is linear.
    pub frobenius_linear : IsLinear (λ (x : Element A). power_in A x (order q))
    frobenius_linear = record {
      sum = λ x y.
          sym (power_is A (x ⊞ y) (order q))
          ∙ ap (λ z. A.unit · z) (ap (λ z. mat_power z (order q)) (right_matrix-sum A x y) ∙ frobenius_sum (right_matrix A x) (right_matrix A y) (matrices_commute x y))
          ∙ mul_add_mat A.unit (mat_power (right_matrix A x) (order q)) (mat_power (right_matrix A y) (order q)) ∙ ap₂ (λ u v. u ⊞ v) (power_is A x (order q)) (power_is A y (order q));
      multiple = λ c x.
          sym (power_is A (c ⊙ x) (order q))
          ∙ ap (λ z. A.unit · z) (ap (λ z. mat_power z (order q)) (right_matrix-multiple A c x) ∙ frobenius_multiple c (right_matrix A x))
          ∙ mul_scale c A.unit (mat_power (right_matrix A x) (order q)) ∙ ap (λ z. c ⊙ z) (power_is A x (order q));
    }

  -- Where taking q-th powers is injective, only zero is nilpotent.
  module _ (injective : (x y : Element A) → power_in A x (order q) ≡ power_in A y (order q) → x ≡ y) where
    large : (m : ℕ) → suc (suc m) ≤ suc m * order q
    large m = let h = one-lt-order q in let e = mul-le-mul_right (suc m) h in omega (arith, e, mul_comm (suc m) (order q))

    root_down : (y : Element A) (m : ℕ) → power_in A y (suc (suc m)) ≡ zeros q 1 A.size → power_in A y (suc m) ≡ zeros q 1 A.size
    root_down y m e = injective (power_in A y (suc m)) (zeros q 1 A.size)
        (power_in-power A y (suc m) (order q) ∙ power_past A y (suc (suc m)) (suc m * order q) (large m) e ∙ sym (power_of_zeros (order q) (order-pos q)))

    no_power : (y : Element A) (m : ℕ) → power_in A y (suc m) ≡ zeros q 1 A.size → y ≡ zeros q 1 A.size
    no_power y zero e = sym (power_in-one A y) ∙ e
    no_power y (suc m) e = no_power y m (root_down y m e)

    pub reduced_ring : (y : Element A) → IsNilpotentIn A y → y ≡ zeros q 1 A.size
    reduced_ring y n = no_power y n.exponent (power_past A y n.exponent (suc n.exponent) (omega arith) n.vanishes)

    module _ (commutes : (x y : Element A) → A.product x y ≡ A.product y x) (fixed : Element A) (fixed_nonzero : fixed ≢ zeros q 1 A.size)
        (all_fixed : (y : Element A) → power_in A y (order q) ≡ y → (c : ℕ) × (y ≡ c ⊙ fixed)) where
      -- The fixed elements are the multiples of 1.
      fixed_scalar : (y : Element A) → power_in A y (order q) ≡ y → (c : ℕ) × (y ≡ c ⊙ A.unit)
      fixed_scalar y e = go (all_fixed y e) (all_fixed A.unit (power_of_unit (order q)))
        where
          go : (c : ℕ) × (y ≡ c ⊙ fixed) → (c : ℕ) × (A.unit ≡ c ⊙ fixed) → (c : ℕ) × (y ≡ c ⊙ A.unit)
          go a b = elim (scalar_or_zero q 1 A.size b.0) [
            | inl z ↦ absurd (fixed_nonzero (sym (A.unit_product fixed) ∙ ap (λ u. A.product u fixed) (b.1 ∙ z fixed) ∙ zeros_product A fixed))
            | inr d ↦ (mul q a.0 d.0, a.1 ∙ ap (λ u. a.0 ⊙ u) (sym (d.1 fixed) ∙ ap (λ u. d.0 ⊙ u) (sym b.1)) ∙ scale_scale a.0 d.0 A.unit)
          ]

      module _ (y z : Element A) (p : power_in A y (suc A.size) ≡ A.product z (A.product (power_in A y (suc A.size)) (power_in A y (suc A.size)))) where
        idempotent : Element A
        idempotent = A.product z (power_in A y (suc A.size))

        acts : A.product idempotent (power_in A y (suc A.size)) ≡ power_in A y (suc A.size)
        unfolding idempotent
        acts = A.associates z (power_in A y (suc A.size)) (power_in A y (suc A.size)) ∙ sym p

        twice : A.product idempotent idempotent ≡ idempotent
        unfolding idempotent
        twice =
            ap (A.product idempotent) (commutes z (power_in A y (suc A.size))) ∙ sym (A.associates idempotent (power_in A y (suc A.size)) z)
            ∙ ap (λ u. A.product u z) acts ∙ commutes (power_in A y (suc A.size)) z

        decide_scalar : (c : ℕ) × (idempotent ≡ c ⊙ A.unit) → (y ≡ zeros q 1 A.size) ⊎ IsUnitIn A y
        unfolding idempotent
        decide_scalar s = elim (scalar_or_zero q 1 A.size s.0) [
          | inl n ↦ inl (no_power y A.size (sym acts ∙ ap (λ u. A.product u (power_in A y (suc A.size))) (s.1 ∙ n A.unit) ∙ zeros_product A (power_in A y (suc A.size))))
          | inr d ↦ inr (unit_of_left A y (d.0 ⊙ A.product z (power_in A y A.size))
              (A.multiple_product d.0 (A.product z (power_in A y A.size)) y
              ∙ ap (λ u. d.0 ⊙ u) (A.associates z (power_in A y A.size) y ∙ ap (A.product z) (sym (power_in-last A y A.size)) ∙ s.1) ∙ d.1 A.unit))
        ]

        zero_or_unit : (y ≡ zeros q 1 A.size) ⊎ IsUnitIn A y
        zero_or_unit = decide_scalar (fixed_scalar idempotent fixes)
          where
            fixes : power_in A idempotent (order q) ≡ idempotent
            fixes = let same : suc (order q - 1) ≡ order q = (let h = order-pos q in omega arith) in ap (power_in A idempotent) (sym same) ∙ power_of_idempotent idempotent twice (order q - 1)

      -- Each element is zero or invertible: the algebra is a field.
      pub frobenius_field : (y : Element A) → (y ≡ zeros q 1 A.size) ⊎ IsUnitIn A y
      frobenius_field y = let s = settles A y (suc A.size) (omega arith) in zero_or_unit y s.0 s.1
