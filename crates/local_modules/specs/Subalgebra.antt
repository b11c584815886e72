-- Spaces of elements of an algebra, by rows that span them: subalgebras, their ideals, and the residue ring modulo an ideal. The rows need not be independent.
-- (Assem, Simson, Skowroński, volume 1, chapter I, 1.)
use Rattle.std.specs.Prelude.{ℕ, ◌≡◌}
use Rattle.std.proofs.Common.{sym, ap, ap₂, ◌∙◌}
use Rattle.linear_algebra.specs.Field.{Gf, order}
use Rattle.linear_algebra.specs.Matrix.{Mat, Row, ◌⊞◌, ◌⊙◌, ◌·◌}
use Rattle.linear_algebra.specs.Rank.{IsInSpan, HasRightInverse}
use Rattle.linear_algebra.proofs.MatrixLaws.{add_mul_mat, scale_mul}
use Rattle.linear_algebra.proofs.Solving.{right_inverse_cancels, in_span_mul}
use Rattle.local_modules.specs.Algebra.{Algebra, Element, power_in}
use Rattle.local_modules.specs.Ideal.{IsCongruent}

-- The span of the rows has the unit, and the products of its members.
pub record IsSubalgebra {q : Gf} (E : Algebra q) {n : ℕ} (ring : Mat q n E.size) : Type 0 where
  pub has_unit : IsInSpan ring E.unit
  pub has_products : (x y : Element E) → IsInSpan ring x → IsInSpan ring y → IsInSpan ring (E.product x y)

-- An algebra A in another one: a row of f is the element of E that a basis element of A stands for. Products and the unit go over, and different elements
-- stand for different ones.
pub record IsEmbedding {q : Gf} (A E : Algebra q) (f : Mat q A.size E.size) : Type 0 where
  pub product : (x y : Element A) → A.product x y · f ≡ E.product (x · f) (y · f)
  pub unit : A.unit · f ≡ E.unit
  pub once : (x y : Element A) → x · f ≡ y · f → x ≡ y

module _ {q : Gf} (E : Algebra q) {n k : ℕ} (ring : Mat q n E.size) (ideal : Mat q k E.size) where
  -- The span of the ideal is closed under products with each member of the ring, on both sides.
  pub record IsIdealOf : Type 0 where
    pub left : (a x : Element E) → IsInSpan ring a → IsInSpan ideal x → IsInSpan ideal (E.product a x)
    pub right : (a x : Element E) → IsInSpan ring a → IsInSpan ideal x → IsInSpan ideal (E.product x a)

  -- Modulo the ideal, the ring is commutative.
  abbrev pub CommutesModulo : Type 0
  CommutesModulo = (x y : Element E) → IsInSpan ring x → IsInSpan ring y → IsCongruent ideal (E.product x y) (E.product y x)

  -- Modulo the ideal, the ring is commutative, the map that takes y to its q-th power is injective on it, and its fixed elements are the multiples of one
  -- that is not zero.
  pub record IsFrobeniusOf : Type 0 where
    pub commutative : CommutesModulo
    pub injective : (x y : Element E) → IsInSpan ring x → IsInSpan ring y → IsCongruent ideal (power_in E x (order q)) (power_in E y (order q)) → IsCongruent ideal x y
    pub fixed : Element E
    pub fixed_inside : IsInSpan ring fixed
    pub fixed_nonzero : IsInSpan ideal fixed → ⊥
    pub is_fixed : IsCongruent ideal (power_in E fixed (order q)) fixed
    pub all_fixed : (y : Element E) → IsInSpan ring y → IsCongruent ideal (power_in E y (order q)) y → (c : ℕ) × IsCongruent ideal y (c ⊙ fixed)

  -- An inverse of x in the ring on both sides, modulo the ideal.
  pub record IsUnitOf (x : Element E) : Type 0 where
    pub inverse : Element E
    pub inside : IsInSpan ring inverse
    pub right : IsCongruent ideal (E.product x inverse) E.unit
    pub left : IsCongruent ideal (E.product inverse x) E.unit

  -- Modulo the ideal, the ring is not commutative, and each of its elements but zero has an inverse.
  pub record IsListedOf : Type 0 where
    pub not_commutative : CommutesModulo → ⊥
    pub inverses : (x : Element E) → IsInSpan ring x → (IsInSpan ideal x → ⊥) → IsUnitOf x

-- A subalgebra by independent rows, in coordinates over them.
module _ {q : Gf} (E : Algebra q) {n : ℕ} (ring : Mat q n E.size) (independent : HasRightInverse ring) (closed : IsSubalgebra E ring) where
  pub coordinates_equal : (x y : Row q n) → x · ring ≡ y · ring → x ≡ y
  coordinates_equal x y e = right_inverse_cancels ring independent x y e

  unfoldable pub times : Row q n → Row q n → Row q n
  times x y = (closed.has_products (x · ring) (y · ring) (in_span_mul ring x) (in_span_mul ring y)).by

  pub times_is : (x y : Row q n) → times x y · ring ≡ E.product (x · ring) (y · ring)
  unfolding times
  times_is x y = (closed.has_products (x · ring) (y · ring) (in_span_mul ring x) (in_span_mul ring y)).is

  pub sum_times : (x y z : Row q n) → times (x ⊞ y) z ≡ times x z ⊞ times y z
  sum_times x y z = coordinates_equal _ _
      (times_is (x ⊞ y) z ∙ ap (λ w. E.product w (z · ring)) (add_mul_mat x y ring) ∙ E.sum_product (x · ring) (y · ring) (z · ring)
      ∙ sym (add_mul_mat (times x z) (times y z) ring ∙ ap₂ (λ a b. a ⊞ b) (times_is x z) (times_is y z)))

  pub times_sum : (x y z : Row q n) → times x (y ⊞ z) ≡ times x y ⊞ times x z
  times_sum x y z = coordinates_equal _ _
      (times_is x (y ⊞ z) ∙ ap (E.product (x · ring)) (add_mul_mat y z ring) ∙ E.product_sum (x · ring) (y · ring) (z · ring)
      ∙ sym (add_mul_mat (times x y) (times x z) ring ∙ ap₂ (λ a b. a ⊞ b) (times_is x y) (times_is x z)))

  pub multiple_times : (c : ℕ) (x y : Row q n) → times (c ⊙ x) y ≡ c ⊙ times x y
  multiple_times c x y = coordinates_equal _ _
      (times_is (c ⊙ x) y ∙ ap (λ w. E.product w (y · ring)) (scale_mul c x ring) ∙ E.multiple_product c (x · ring) (y · ring)
      ∙ sym (scale_mul c (times x y) ring ∙ ap (λ a. c ⊙ a) (times_is x y)))

  pub times_multiple : (c : ℕ) (x y : Row q n) → times x (c ⊙ y) ≡ c ⊙ times x y
  times_multiple c x y = coordinates_equal _ _
      (times_is x (c ⊙ y) ∙ ap (E.product (x · ring)) (scale_mul c y ring) ∙ E.product_multiple c (x · ring) (y · ring)
      ∙ sym (scale_mul c (times x y) ring ∙ ap (λ a. c ⊙ a) (times_is x y)))

  pub times_associates : (x y z : Row q n) → times (times x y) z ≡ times x (times y z)
  times_associates x y z = coordinates_equal _ _
      (times_is (times x y) z ∙ ap (λ w. E.product w (z · ring)) (times_is x y) ∙ E.associates (x · ring) (y · ring) (z · ring)
      ∙ sym (times_is x (times y z) ∙ ap (E.product (x · ring)) (times_is y z)))

  pub one_times : (x : Row q n) → times closed.has_unit.by x ≡ x
  one_times x = coordinates_equal _ _ (times_is closed.has_unit.by x ∙ ap (λ w. E.product w (x · ring)) closed.has_unit.is ∙ E.unit_product (x · ring))

  pub times_one : (x : Row q n) → times x closed.has_unit.by ≡ x
  times_one x = coordinates_equal _ _ (times_is x closed.has_unit.by ∙ ap (E.product (x · ring)) closed.has_unit.is ∙ E.product_unit (x · ring))

  abbrev pub subalgebra : Algebra q
  subalgebra = record {
    size = n;
    product = times;
    unit = closed.has_unit.by;
    sum_product = sum_times;
    product_sum = times_sum;
    multiple_product = multiple_times;
    product_multiple = times_multiple;
    associates = times_associates;
    unit_product = one_times;
    product_unit = times_one;
  }
