-- The laws of an algebra, and its regular representation: the matrix of multiplication by an element from the right.
use Rattle.std.proofs.Common.{ℕ, zero, suc, ◌+◌, ◌-◌, ◌*◌, ◌<◌, mul-suc, ◌≤◌, ◌≡◌, ◌≢◌, ◌⊎◌, refl, inl, inr, sym, ap, ap₂, ◌∙◌, arith, subst}
use Rattle.linear_algebra.specs.Field.{Gf, neg}
use Rattle.linear_algebra.specs.Matrix.{Mat, zeros, one, ◌⊞◌, ◌⊟◌, ◌⊙◌, ◌·◌}
use Rattle.linear_algebra.specs.Rank.{IsInSpan, HasInverse}
use Rattle.linear_algebra.specs.Powers.{mat_power, FittingParts}
use Rattle.linear_algebra.specs.LinearMaps.{IsLinear, matrix_of}
use Rattle.linear_algebra.proofs.MatrixLaws.{mul_assoc_mat, mul_one_mat, mul_zeros, mul_add_mat, mul_sub_mat, mul_scale, add_mul_mat, difference, negative_scale, zeros_add}
use Rattle.linear_algebra.proofs.PartsLaws.{equal_on_rows}
use Rattle.linear_algebra.proofs.LinearMaps.{mul-matrix_of, linear_zeros}
use Rattle.linear_algebra.proofs.Dimension.{square_inverse}
use Rattle.linear_algebra.proofs.Inverses.{one_minus_nilpotent, mat_power-suc, mat_power-zero}
use Rattle.linear_algebra.proofs.Fitting.{fitting, nilpotent_vanishes}
use Rattle.linear_algebra.proofs.Solving.{in_span_or_not, equal_or_not}
use Rattle.local_modules.specs.Algebra.{Algebra, Element, power_in, product_in, IsUnitIn, IsNilpotentIn, IsMixed}

pub mul-suc-left : (j k : ℕ) → j * suc k ≡ j + j * k
mul-suc-left j k = omega (arith, mul-suc j k)

module _ {q : Gf} (A : Algebra q) where
  pub by_right_linear : (y : Element A) → IsLinear (λ (x : Element A). A.product x y)
  by_right_linear y = record { sum = λ a b. A.sum_product a b y; multiple = λ c a. A.multiple_product c a y }

  pub by_left_linear : (x : Element A) → IsLinear (λ (y : Element A). A.product x y)
  by_left_linear x = record { sum = λ a b. A.product_sum x a b; multiple = λ c a. A.product_multiple c x a }

  pub zeros_product : (y : Element A) → A.product (zeros q 1 A.size) y ≡ zeros q 1 A.size
  zeros_product y = linear_zeros (λ (x : Element A). A.product x y) (by_right_linear y)

  pub product_zeros : (x : Element A) → A.product x (zeros q 1 A.size) ≡ zeros q 1 A.size
  product_zeros x = linear_zeros (λ (y : Element A). A.product x y) (by_left_linear x)

  -- Differences.
  pub linear_difference : (f : Element A → Element A) → IsLinear f → (y z : Element A) → f (y ⊟ z) ≡ f y ⊟ f z
  linear_difference f h y z =
      ap f (difference y z ∙ ap (λ u. y ⊞ u) (negative_scale z)) ∙ h.sum y (neg q 1 ⊙ z) ∙ ap (λ u. f y ⊞ u) (h.multiple (neg q 1) z ∙ sym (negative_scale (f z))) ∙ sym (difference (f y) (f z))

  pub product_difference : (x y z : Element A) → A.product x (y ⊟ z) ≡ A.product x y ⊟ A.product x z
  product_difference x y z = linear_difference (λ (y : Element A). A.product x y) (by_left_linear x) y z

  pub difference_product : (x y z : Element A) → A.product (x ⊟ y) z ≡ A.product x z ⊟ A.product y z
  difference_product x y z = linear_difference (λ (x : Element A). A.product x z) (by_right_linear z) x y

  -- Powers.
  pub power_in-zero : (x : Element A) → power_in A x 0 ≡ A.unit
  unfolding power_in
  power_in-zero x = refl

  pub power_in-suc : (x : Element A) (k : ℕ) → power_in A x (suc k) ≡ A.product x (power_in A x k)
  unfolding power_in
  power_in-suc x k = refl

  pub power_in-one : (x : Element A) → power_in A x 1 ≡ x
  power_in-one x = power_in-suc x 0 ∙ ap (A.product x) (power_in-zero x) ∙ A.product_unit x

  pub power_in-add : (x : Element A) (j k : ℕ) → power_in A x (j + k) ≡ A.product (power_in A x j) (power_in A x k)
  power_in-add x zero k = let same : 0 + k ≡ k = omega arith in ap (power_in A x) same ∙ sym (ap (λ z. A.product z (power_in A x k)) (power_in-zero x) ∙ A.unit_product (power_in A x k))
  power_in-add x (suc j) k =
      let same : suc j + k ≡ suc (j + k) = omega arith in
      ap (power_in A x) same ∙ power_in-suc x (j + k) ∙ ap (A.product x) (power_in-add x j k) ∙ sym (A.associates x (power_in A x j) (power_in A x k))
      ∙ ap (λ z. A.product z (power_in A x k)) (sym (power_in-suc x j))

  pub power_in-last : (x : Element A) (k : ℕ) → power_in A x (suc k) ≡ A.product (power_in A x k) x
  power_in-last x k = let same : suc k ≡ k + 1 = omega arith in ap (power_in A x) same ∙ power_in-add x k 1 ∙ ap (A.product (power_in A x k)) (power_in-one x)

  pub power_in-power : (x : Element A) (j k : ℕ) → power_in A (power_in A x j) k ≡ power_in A x (j * k)
  power_in-power x j zero = let same : j * 0 ≡ 0 = omega arith in power_in-zero (power_in A x j) ∙ sym (ap (power_in A x) same ∙ power_in-zero x)
  power_in-power x j (suc k) =
      power_in-suc (power_in A x j) k ∙ ap (A.product (power_in A x j)) (power_in-power x j k) ∙ sym (power_in-add x j (j * k)) ∙ ap (power_in A x) (sym (mul-suc-left j k))

  pub product_in-constant : (x : Element A) (k : ℕ) → product_in A (λ i. x) k ≡ power_in A x k
  unfolding product_in
  product_in-constant x zero = sym (power_in-zero x)
  product_in-constant x (suc k) = ap (λ z. A.product z x) (product_in-constant x k) ∙ sym (power_in-last x k)

  pub product_in-same : (h g : ℕ → Element A) (k : ℕ) → ((i : ℕ) → i < k → h i ≡ g i) → product_in A h k ≡ product_in A g k
  unfolding product_in
  product_in-same h g zero e = refl
  product_in-same h g (suc k) e = ap₂ A.product (product_in-same h g k (λ i l. e i (omega arith))) (e k (omega arith))

  pub product_in-add : (h : ℕ → Element A) (j k : ℕ) → product_in A h (j + k) ≡ A.product (product_in A h j) (product_in A (λ i. h (j + i)) k)
  unfolding product_in
  product_in-add h j zero = let same : j + 0 ≡ j = omega arith in ap (product_in A h) same ∙ sym (A.product_unit (product_in A h j))
  product_in-add h j (suc k) =
      let same : j + suc k ≡ suc (j + k) = omega arith in
      ap (product_in A h) same ∙ ap (λ z. A.product z (h (j + k))) (product_in-add h j k) ∙ A.associates (product_in A h j) (product_in A (λ i. h (j + i)) k) (h (j + k))

  pub product_in-none : (h : ℕ → Element A) → product_in A h 0 ≡ A.unit
  unfolding product_in
  product_in-none h = refl

  pub product_in-last : (h : ℕ → Element A) (k : ℕ) → product_in A h (suc k) ≡ A.product (product_in A h k) (h k)
  unfolding product_in
  product_in-last h k = refl

  pub product_in-one : (h : ℕ → Element A) → product_in A h 1 ≡ h 0
  product_in-one h = product_in-last h 0 ∙ ap (λ z. A.product z (h 0)) (product_in-none h) ∙ A.unit_product (h 0)

  -- a product in s blocks of d factors
  pub product_in-blocks : (h : ℕ → Element A) (d s : ℕ) → product_in A h (d * s) ≡ product_in A (λ j. product_in A (λ i. h (d * j + i)) d) s
  product_in-blocks h d zero = let same : d * 0 ≡ 0 = omega arith in ap (product_in A h) same ∙ product_in-none h ∙ sym (product_in-none (λ j. product_in A (λ i. h (d * j + i)) d))
  product_in-blocks h d (suc s) =
      let same : d * suc s ≡ d * s + d = omega (arith, mul-suc d s) in
      ap (product_in A h) same ∙ product_in-add h (d * s) d ∙ ap (λ z. A.product z (product_in A (λ i. h (d * s + i)) d)) (product_in-blocks h d s)
      ∙ sym (product_in-last (λ j. product_in A (λ i. h (d * j + i)) d) s)

  pub power_past : (x : Element A) (j k : ℕ) → j ≤ k → power_in A x j ≡ zeros q 1 A.size → power_in A x k ≡ zeros q 1 A.size
  power_past x j k h e =
      let same : k ≡ j + (k - j) = omega arith in
      ap (power_in A x) same ∙ power_in-add x j (k - j) ∙ ap (λ z. A.product z (power_in A x (k - j))) e ∙ zeros_product (power_in A x (k - j))

  -- The regular representation.
  unfoldable pub right_matrix : Element A → Mat q A.size A.size
  right_matrix y = matrix_of (λ (x : Element A). A.product x y)

  pub mul-right_matrix : (x y : Element A) → x · right_matrix y ≡ A.product x y
  unfolding right_matrix
  mul-right_matrix x y = mul-matrix_of (λ (x : Element A). A.product x y) (by_right_linear y) x

  unfoldable pub left_matrix : Element A → Mat q A.size A.size
  left_matrix x = matrix_of (λ (y : Element A). A.product x y)

  pub mul-left_matrix : (x y : Element A) → y · left_matrix x ≡ A.product x y
  unfolding left_matrix
  mul-left_matrix x y = mul-matrix_of (λ (y : Element A). A.product x y) (by_left_linear x) y

  pub right_matrix-product : (x y : Element A) → right_matrix (A.product x y) ≡ right_matrix x · right_matrix y
  right_matrix-product x y = equal_on_rows _ _ (λ z.
      mul-right_matrix z (A.product x y) ∙ sym (A.associates z x y) ∙ sym (mul-right_matrix (A.product z x) y) ∙ ap (λ u. u · right_matrix y) (sym (mul-right_matrix z x)) ∙ mul_assoc_mat z (right_matrix x) (right_matrix y))

  pub right_matrix-unit : right_matrix A.unit ≡ one q A.size
  right_matrix-unit = equal_on_rows _ _ (λ z. mul-right_matrix z A.unit ∙ A.product_unit z ∙ sym (mul_one_mat z))

  pub right_matrix-zeros : right_matrix (zeros q 1 A.size) ≡ zeros q A.size A.size
  right_matrix-zeros = equal_on_rows _ _ (λ z. mul-right_matrix z (zeros q 1 A.size) ∙ product_zeros z ∙ sym (mul_zeros z))

  pub right_matrix-sum : (x y : Element A) → right_matrix (x ⊞ y) ≡ right_matrix x ⊞ right_matrix y
  right_matrix-sum x y = equal_on_rows _ _ (λ z.
      mul-right_matrix z (x ⊞ y) ∙ A.product_sum z x y ∙ sym (ap₂ (λ u v. u ⊞ v) (mul-right_matrix z x) (mul-right_matrix z y)) ∙ sym (mul_add_mat z (right_matrix x) (right_matrix y)))

  pub right_matrix-multiple : (c : ℕ) (x : Element A) → right_matrix (c ⊙ x) ≡ c ⊙ right_matrix x
  right_matrix-multiple c x = equal_on_rows _ _ (λ z.
      mul-right_matrix z (c ⊙ x) ∙ A.product_multiple c z x ∙ sym (ap (λ u. c ⊙ u) (mul-right_matrix z x)) ∙ sym (mul_scale c z (right_matrix x)))

  pub right_matrix-power : (x : Element A) (k : ℕ) → right_matrix (power_in A x k) ≡ mat_power (right_matrix x) k
  right_matrix-power x zero = ap right_matrix (power_in-zero x) ∙ right_matrix-unit ∙ sym (mat_power-zero (right_matrix x))
  right_matrix-power x (suc k) =
      ap right_matrix (power_in-suc x k) ∙ right_matrix-product x (power_in A x k) ∙ ap (λ z. right_matrix x · z) (right_matrix-power x k) ∙ sym (mat_power-suc (right_matrix x) k)

  -- An element is the image of the unit, so it is determined by its matrix.
  pub unit-right_matrix : (x : Element A) → A.unit · right_matrix x ≡ x
  unit-right_matrix x = mul-right_matrix A.unit x ∙ A.unit_product x

  pub right_matrix_injective : (x y : Element A) → right_matrix x ≡ right_matrix y → x ≡ y
  right_matrix_injective x y e = sym (unit-right_matrix x) ∙ ap (λ z. A.unit · z) e ∙ unit-right_matrix y

  pub power_is : (x : Element A) (k : ℕ) → A.unit · mat_power (right_matrix x) k ≡ power_in A x k
  power_is x k = ap (λ z. A.unit · z) (sym (right_matrix-power x k)) ∙ unit-right_matrix (power_in A x k)

  -- A one-sided inverse is two-sided.
  pub inverse_sides : (x y : Element A) → A.product x y ≡ A.unit → A.product y x ≡ A.unit
  inverse_sides x y e = right_matrix_injective _ _
      (right_matrix-product y x ∙ square_inverse (right_matrix x) (right_matrix y) (sym (right_matrix-product x y) ∙ ap right_matrix e ∙ right_matrix-unit) ∙ sym right_matrix-unit)

  pub unit_of_right : (x y : Element A) → A.product x y ≡ A.unit → IsUnitIn A x
  unit_of_right x y e = record { inverse = y; right = e; left = inverse_sides x y e }

  pub unit_of_left : (x y : Element A) → A.product y x ≡ A.unit → IsUnitIn A x
  unit_of_left x y e = record { inverse = y; right = inverse_sides y x e; left = e }

  pub unit_of_matrix : (x : Element A) → HasInverse (right_matrix x) → IsUnitIn A x
  unit_of_matrix x i = unit_of_left x (A.unit · i.inverse) (sym (mul-right_matrix (A.unit · i.inverse) x) ∙ mul_assoc_mat A.unit i.inverse (right_matrix x) ∙ ap (λ z. A.unit · z) i.left ∙ mul_one_mat A.unit)

  -- Factors of an invertible element are invertible.
  pub unit_first : (x y : Element A) → IsUnitIn A (A.product x y) → IsUnitIn A x
  unit_first x y i = unit_of_right x (A.product y i.inverse) (sym (A.associates x y i.inverse) ∙ i.right)

  pub unit_second : (x y : Element A) → IsUnitIn A (A.product x y) → IsUnitIn A y
  unit_second x y i = unit_of_left y (A.product i.inverse x) (A.associates i.inverse x y ∙ i.left)

  pub unit_product : (x y : Element A) → IsUnitIn A x → IsUnitIn A y → IsUnitIn A (A.product x y)
  unit_product x y i j = unit_of_right (A.product x y) (A.product j.inverse i.inverse)
      (A.associates x y (A.product j.inverse i.inverse) ∙ ap (A.product x) (sym (A.associates y j.inverse i.inverse) ∙ ap (λ z. A.product z i.inverse) j.right ∙ A.unit_product i.inverse) ∙ i.right)

  -- 1 − x is invertible where x is nilpotent.
  pub unit_minus_nilpotent : (x : Element A) → IsNilpotentIn A x → IsUnitIn A (A.unit ⊟ x)
  unit_minus_nilpotent x n = unit_of_matrix (A.unit ⊟ x)
      (subst HasInverse (sym at) (one_minus_nilpotent (right_matrix x) (record { exponent = n.exponent; vanishes = sym (right_matrix-power x n.exponent) ∙ ap right_matrix n.vanishes ∙ right_matrix-zeros })))
    where
      at : right_matrix (A.unit ⊟ x) ≡ one q A.size ⊟ right_matrix x
      at = equal_on_rows _ _ (λ z.
          mul-right_matrix z (A.unit ⊟ x) ∙ product_difference z A.unit x ∙ ap₂ (λ u v. u ⊟ v) (A.product_unit z ∙ sym (mul_one_mat z)) (sym (mul-right_matrix z x))
          ∙ sym (mul_sub_mat z (one q A.size) (right_matrix x)))

  -- Nilpotent elements have a power that vanishes at the dimension of the algebra.
  pub nilpotent_power : (x : Element A) → IsNilpotentIn A x → power_in A x A.size ≡ zeros q 1 A.size
  nilpotent_power x n =
      sym (power_is x A.size)
      ∙ ap (λ z. A.unit · z) (nilpotent_vanishes (right_matrix x) A.size (omega arith) (record { exponent = n.exponent; vanishes = sym (right_matrix-power x n.exponent) ∙ ap right_matrix n.vanishes ∙ right_matrix-zeros }))
      ∙ mul_zeros A.unit

  -- A nilpotent element is not invertible, where the algebra is not zero.
  pub nilpotent_no_unit : A.unit ≢ zeros q 1 A.size → (x : Element A) → IsNilpotentIn A x → IsUnitIn A x → ⊥
  nilpotent_no_unit nonzero x n i = nonzero (none n.exponent n.vanishes)
    where
      none : (k : ℕ) → power_in A x k ≡ zeros q 1 A.size → A.unit ≡ zeros q 1 A.size
      none zero e = sym (power_in-zero x) ∙ e
      none (suc k) e = none k
          (sym (A.unit_product (power_in A x k)) ∙ ap (λ z. A.product z (power_in A x k)) (sym i.left) ∙ A.associates i.inverse x (power_in A x k)
          ∙ ap (A.product i.inverse) (sym (power_in-suc x k) ∙ e) ∙ product_zeros i.inverse)

  -- Fitting's lemma: the powers of an element settle.
  pub settles : (x : Element A) (e : ℕ) → A.size ≤ e → (z : Element A) × (power_in A x e ≡ A.product z (A.product (power_in A x e) (power_in A x e)))
  settles x e h = go (fitting (right_matrix x) e h A.unit)
    where
      go : FittingParts (right_matrix x) e A.unit → (z : Element A) × (power_in A x e ≡ A.product z (A.product (power_in A x e) (power_in A x e)))
      go p = (
        p.source,
        sym (power_is x e) ∙ ap (λ z. z · mat_power (right_matrix x) e) (sym p.sum) ∙ cut p,
      )
        where
          cut : (p : FittingParts (right_matrix x) e A.unit) → (p.nilpotent_part ⊞ p.source · mat_power (right_matrix x) e) · mat_power (right_matrix x) e ≡ A.product p.source (A.product (power_in A x e) (power_in A x e))
          cut p =
              add_mul_mat p.nilpotent_part (p.source · mat_power (right_matrix x) e) (mat_power (right_matrix x) e)
              ∙ ap₂ (λ u v. u ⊞ v) p.vanishes (ap₂ (λ u v. p.source · u · v) (sym (right_matrix-power x e)) (sym (right_matrix-power x e)))
              ∙ zeros_add (p.source · right_matrix (power_in A x e) · right_matrix (power_in A x e))
              ∙ ap (λ u. u · right_matrix (power_in A x e)) (mul-right_matrix p.source (power_in A x e)) ∙ mul-right_matrix (A.product p.source (power_in A x e)) (power_in A x e)
              ∙ A.associates p.source (power_in A x e) (power_in A x e)

  -- Each element is invertible, nilpotent, or neither.
  pub classify : (x : Element A) → IsUnitIn A x ⊎ IsNilpotentIn A x ⊎ IsMixed A x
  classify x = go (in_span_or_not (right_matrix x) A.unit) (equal_or_not (power_in A x A.size) (zeros q 1 A.size))
    where
      go : IsInSpan (right_matrix x) A.unit ⊎ (IsInSpan (right_matrix x) A.unit → ⊥) → (power_in A x A.size ≡ zeros q 1 A.size) ⊎ (power_in A x A.size ≢ zeros q 1 A.size) → IsUnitIn A x ⊎ IsNilpotentIn A x ⊎ IsMixed A x
      go (inl s) e = inl (unit_of_left x s.by (sym (mul-right_matrix s.by x) ∙ s.is))
      go (inr n) (inl e) = inr (inl (record { exponent = A.size; vanishes = e }))
      go (inr n) (inr e) = inr (inr (record {
        no_unit = λ i. n (record { by = i.inverse; is = mul-right_matrix i.inverse x ∙ i.left });
        not_nilpotent = λ p. e (nilpotent_power x p);
      }))
