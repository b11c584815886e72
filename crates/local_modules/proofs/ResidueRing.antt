-- The residue ring of an algebra modulo a two-sided ideal: coordinates at the places that are no pivots of the ideal, classes and their lifts.
use Rattle.std.proofs.Common.{ℕ, zero, suc, ◌+◌, ◌*◌, ◌<◌, ◌≡◌, ◌≢◌, sym, ap, ◌∙◌, subst, refl}
use Rattle.linear_algebra.specs.Field.{Gf, neg}
use Rattle.linear_algebra.specs.Matrix.{Mat, Row, zeros, one, ◌⊞◌, ◌⊟◌, ◌⊙◌, ◌·◌}
use Rattle.linear_algebra.specs.Rank.{IsInSpan}
use Rattle.linear_algebra.specs.RowForm.{CoReducedForm, IsRowReduced}
use Rattle.linear_algebra.proofs.MatrixLaws.{mul_assoc_mat, mul_one_mat, mul_zeros, zeros_mul, add_mul_mat, sub_mul_mat, scale_mul, difference, negative_scale, sub_eq_zeros, sub_self_mat}
use Rattle.linear_algebra.proofs.Products.{products, sums}
use Rattle.linear_algebra.proofs.CoReduced.{place_rows, place_rows_undo, coreduced_form}
use Rattle.linear_algebra.proofs.Families.{in_span_scale, in_span_zeros}
use Rattle.linear_algebra.proofs.Solving.{in_span_sum, in_span_self, row_in_span}
use Rattle.linear_algebra.proofs.PartsLaws.{rows_equal, row-mul, row_zeros}
use Rattle.linear_algebra.proofs.CoReducedUnique.{pivot_no_place, pivots_and_places}
use Rattle.linear_algebra.specs.Parts.{row}
use Rattle.local_modules.specs.Algebra.{Algebra, Element, power_in, product_in, IsUnitIn, IsNilpotentIn}
use Rattle.local_modules.specs.Ideal.{IsTwoSided, PowerVanishes, IsCongruent}
use Rattle.local_modules.specs.Residue.{ResidueRing}
use Rattle.local_modules.proofs.AlgebraLaws.{product_difference, difference_product, power_in-zero, power_in-suc, unit_first, unit_minus_nilpotent, power_in-power, product_in-constant}

-- The classes modulo the span of some rows: coordinates, with a matrix that takes each row to its class, and one that takes a class to a row in it.
pub record Classes {q : Gf} {k n : ℕ} (I : Mat q k n) : Type 0 where
  pub size : ℕ
  pub class : Mat q n size
  pub lift : Mat q size n
  pub undo : lift · class ≡ one q size
  pub vanishes : (x : Row q n) → IsInSpan I x → x · class ≡ zeros q 1 size
  pub kernel : (x : Row q n) → x · class ≡ zeros q 1 size → IsInSpan I x

-- Congruences.
module _ {q : Gf} {k n : ℕ} (I : Mat q k n) where
  pub in_span_difference : (x y : Row q n) → IsInSpan I x → IsInSpan I y → IsInSpan I (x ⊟ y)
  in_span_difference x y s t = subst (IsInSpan I) (ap (λ z. x ⊞ z) (sym (negative_scale y)) ∙ sym (difference x y)) (in_span_sum I x (neg q 1 ⊙ y) s (in_span_scale I (neg q 1) y t))

  pub congruent_self : (x : Row q n) → IsCongruent I x x
  congruent_self x = subst (IsInSpan I) (sym (sub_self_mat x)) (in_span_zeros 1 I)

  pub congruent_equal : (x y : Row q n) → x ≡ y → IsCongruent I x y
  congruent_equal x y e = subst (λ z. IsCongruent I x z) e (congruent_self x)

  -- what is congruent to a member is a member
  pub congruent_member : (x y : Row q n) → IsCongruent I x y → IsInSpan I y → IsInSpan I x
  congruent_member x y c s = subst (IsInSpan I) (simp (products, sums)) (in_span_sum I (x ⊟ y) y c s)

module _ {q : Gf} (A : Algebra q) {k : ℕ} (I : Mat q k A.size) (C : Classes I) where
  -- The class of an element, and an element of a class.
  unfoldable pub class_of : Element A → Row q C.size
  class_of x = x · C.class

  unfoldable pub lift_of : Row q C.size → Element A
  lift_of y = y · C.lift

  pub class_zeros : class_of (zeros q 1 A.size) ≡ zeros q 1 C.size
  unfolding class_of
  class_zeros = zeros_mul C.class

  pub class_sum : (x y : Element A) → class_of (x ⊞ y) ≡ class_of x ⊞ class_of y
  unfolding class_of
  class_sum x y = add_mul_mat x y C.class

  pub class_difference : (x y : Element A) → class_of (x ⊟ y) ≡ class_of x ⊟ class_of y
  unfolding class_of
  class_difference x y = sub_mul_mat x y C.class

  pub class_multiple : (c : ℕ) (x : Element A) → class_of (c ⊙ x) ≡ c ⊙ class_of x
  unfolding class_of
  class_multiple c x = scale_mul c x C.class

  pub lift_zeros : lift_of (zeros q 1 C.size) ≡ zeros q 1 A.size
  unfolding lift_of
  lift_zeros = zeros_mul (C.lift)

  pub lift_sum : (x y : Row q C.size) → lift_of (x ⊞ y) ≡ lift_of x ⊞ lift_of y
  unfolding lift_of
  lift_sum x y = add_mul_mat x y (C.lift)

  pub lift_multiple : (c : ℕ) (x : Row q C.size) → lift_of (c ⊙ x) ≡ c ⊙ lift_of x
  unfolding lift_of
  lift_multiple c x = scale_mul c x (C.lift)

  pub class-lift : (y : Row q C.size) → class_of (lift_of y) ≡ y
  unfolding class_of lift_of
  class-lift y = mul_assoc_mat y (C.lift) C.class ∙ ap (λ z. y · z) (C.undo) ∙ mul_one_mat y

  -- The ideal is the class of zero.
  pub class_of_member : (x : Element A) → IsInSpan I x → class_of x ≡ zeros q 1 C.size
  unfolding class_of
  class_of_member x s = C.vanishes x s

  pub member_of_class : (x : Element A) → class_of x ≡ zeros q 1 C.size → IsInSpan I x
  unfolding class_of
  member_of_class x e = C.kernel x e

  pub class_same : (x y : Element A) → IsCongruent I x y → class_of x ≡ class_of y
  class_same x y c = sub_eq_zeros (class_of x) (class_of y) (sym (class_difference x y) ∙ class_of_member (x ⊟ y) c)

  pub congruent_of_class : (x y : Element A) → class_of x ≡ class_of y → IsCongruent I x y
  congruent_of_class x y e = member_of_class (x ⊟ y) (class_difference x y ∙ ap (λ z. z ⊟ class_of y) e ∙ sub_self_mat (class_of y))

  pub lift-class : (x : Element A) → IsCongruent I (lift_of (class_of x)) x
  lift-class x = congruent_of_class (lift_of (class_of x)) x (class-lift (class_of x))

  module _ (t : IsTwoSided A I) where
    -- Congruences may be multiplied.
    pub product_congruent : (x y u v : Element A) → IsCongruent I x u → IsCongruent I y v → IsCongruent I (A.product x y) (A.product u v)
    product_congruent x y u v c d = subst (IsInSpan I) (split (A.product x y) (A.product u y) (A.product u v))
        (in_span_sum I _ _ (subst (IsInSpan I) (difference_product A x u y) (t.right y (x ⊟ u) c)) (subst (IsInSpan I) (product_difference A u y v) (t.left u (y ⊟ v) d)))
      where
        split : (a b c : Element A) → (a ⊟ b) ⊞ (b ⊟ c) ≡ a ⊟ c
        split a b c = simp (products, sums)

    -- Representatives may be changed before a product.
    pub class_left : (x y : Element A) → class_of (A.product (lift_of (class_of x)) y) ≡ class_of (A.product x y)
    class_left x y = class_same _ _ (product_congruent (lift_of (class_of x)) y x y (lift-class x) (congruent_self I y))

    pub class_right : (x y : Element A) → class_of (A.product x (lift_of (class_of y))) ≡ class_of (A.product x y)
    class_right x y = class_same _ _ (product_congruent x (lift_of (class_of y)) x y (congruent_self I x) (lift-class y))

    pub residue_associates : (x y z : Row q C.size) → class_of (A.product (lift_of (class_of (A.product (lift_of x) (lift_of y)))) (lift_of z)) ≡ class_of (A.product (lift_of x) (lift_of (class_of (A.product (lift_of y) (lift_of z)))))
    residue_associates x y z = class_left (A.product (lift_of x) (lift_of y)) (lift_of z) ∙ ap class_of (A.associates (lift_of x) (lift_of y) (lift_of z)) ∙ sym (class_right (lift_of x) (A.product (lift_of y) (lift_of z)))

    -- The residue ring.
    abbrev pub residue_ring : Algebra q
    residue_ring = record {
      size = C.size;
      product = λ x y. class_of (A.product (lift_of x) (lift_of y));
      unit = class_of A.unit;
      sum_product = λ x y z. ap (λ u. class_of (A.product u (lift_of z))) (lift_sum x y) ∙ ap class_of (A.sum_product (lift_of x) (lift_of y) (lift_of z)) ∙ class_sum _ _;
      product_sum = λ x y z. ap (λ u. class_of (A.product (lift_of x) u)) (lift_sum y z) ∙ ap class_of (A.product_sum (lift_of x) (lift_of y) (lift_of z)) ∙ class_sum _ _;
      multiple_product = λ c x y. ap (λ u. class_of (A.product u (lift_of y))) (lift_multiple c x) ∙ ap class_of (A.multiple_product c (lift_of x) (lift_of y)) ∙ class_multiple c _;
      product_multiple = λ c x y. ap (λ u. class_of (A.product (lift_of x) u)) (lift_multiple c y) ∙ ap class_of (A.product_multiple c (lift_of x) (lift_of y)) ∙ class_multiple c _;
      associates = residue_associates;
      unit_product = λ x. class_left A.unit (lift_of x) ∙ ap class_of (A.unit_product (lift_of x)) ∙ class-lift x;
      product_unit = λ x. class_right (lift_of x) A.unit ∙ ap class_of (A.product_unit (lift_of x)) ∙ class-lift x;
    }

    pub class_product : (x y : Element A) → class_of (A.product x y) ≡ residue_ring.product (class_of x) (class_of y)
    class_product x y = sym (class_left x (lift_of (class_of y)) ∙ class_right x y)

-- The residue ring as a whole, with its classes.
pub classes : {q : Gf} {k n : ℕ} (I : Mat q k n) (C : CoReducedForm I) → Classes I
classes {q} {k} {n} I C = record {
  size = C.size;
  class = C.projection;
  lift = place_rows q C.size n C.place;
  undo = place_rows_undo C.projection C.place C.coreduced;
  vanishes = λ x s. ap (λ z. z · C.projection) (sym s.is) ∙ mul_assoc_mat s.by I C.projection ∙ ap (λ z. s.by · z) C.kills ∙ mul_zeros s.by;
  kernel = λ x e. C.spans x e;
}

pub residue : {q : Gf} (A : Algebra q) {k : ℕ} (I : Mat q k A.size) → IsTwoSided A I → ResidueRing A I
unfolding classes class_of
residue {q} A I t = let C = coreduced_form I in record {
  ring = residue_ring A I (classes I C) t;
  class = C.projection;
  place = C.place;
  coreduced = C.coreduced;
  lift = place_rows q C.size A.size C.place;
  class_of_lift = place_rows_undo C.projection C.place C.coreduced;
  product = class_product A I (classes I C) t;
  unit = refl;
  vanishes = (classes I C).vanishes;
  kernel = (classes I C).kernel;
}

-- Members of an ideal of which a power is zero are nilpotent.
pub member_nilpotent : {q : Gf} (A : Algebra q) {k : ℕ} (I : Mat q k A.size) (s : ℕ) → PowerVanishes A I s → (x : Element A) → IsInSpan I x → IsNilpotentIn A x
member_nilpotent A I s v x m = record { exponent = s; vanishes = sym (product_in-constant A x s) ∙ v (λ i. x) (λ i l. m) }

-- What each residue ring has.
abbrev pub classes_of : {q : Gf} {A : Algebra q} {k : ℕ} {I : Mat q k A.size} (R : ResidueRing A I) → Classes I
classes_of R = record { size = R.ring.size; class = R.class; lift = R.lift; undo = R.class_of_lift; vanishes = R.vanishes; kernel = R.kernel }

module _ {q : Gf} (A : Algebra q) {k : ℕ} (I : Mat q k A.size) (R : ResidueRing A I) where
  abbrev C : Classes I
  C = classes_of R

  pub ring_product : (x y : Element A) → class_of A I C (A.product x y) ≡ R.ring.product (class_of A I C x) (class_of A I C y)
  unfolding class_of
  ring_product x y = R.product x y

  pub ring_unit : class_of A I C A.unit ≡ R.ring.unit
  unfolding class_of
  ring_unit = R.unit

  pub class_power : (x : Element A) (k : ℕ) → class_of A I C (power_in A x k) ≡ power_in R.ring (class_of A I C x) k
  class_power x zero = ap (class_of A I C) (power_in-zero A x) ∙ ring_unit ∙ sym (power_in-zero R.ring (class_of A I C x))
  class_power x (suc k) =
      ap (class_of A I C) (power_in-suc A x k) ∙ ring_product x (power_in A x k) ∙ ap (R.ring.product (class_of A I C x)) (class_power x k) ∙ sym (power_in-suc R.ring (class_of A I C x) k)

  pub class_product_in : (h : ℕ → Element A) (k : ℕ) → class_of A I C (product_in A h k) ≡ product_in R.ring (λ i. class_of A I C (h i)) k
  unfolding product_in
  class_product_in h zero = ring_unit
  class_product_in h (suc k) = ring_product (product_in A h k) (h k) ∙ ap (λ z. R.ring.product z (class_of A I C (h k))) (class_product_in h k)

  -- The class of an invertible or nilpotent element is invertible or nilpotent.
  pub class_unit : (x : Element A) → IsUnitIn A x → IsUnitIn R.ring (class_of A I C x)
  class_unit x i = record {
    inverse = class_of A I C i.inverse;
    right = sym (ring_product x i.inverse) ∙ ap (class_of A I C) i.right ∙ ring_unit;
    left = sym (ring_product i.inverse x) ∙ ap (class_of A I C) i.left ∙ ring_unit;
  }

  pub class_nilpotent : (x : Element A) → IsNilpotentIn A x → IsNilpotentIn R.ring (class_of A I C x)
  class_nilpotent x n = record { exponent = n.exponent; vanishes = sym (class_power x n.exponent) ∙ ap (class_of A I C) n.vanishes ∙ class_zeros A I C }

  module _ (s : ℕ) (v : PowerVanishes A I s) where
    -- Conversely, where a power of the ideal is zero.
    pub unit_of_class : (x : Element A) → IsUnitIn R.ring (class_of A I C x) → IsUnitIn A x
    unit_of_class x i = unit_first A x (lift_of A I C i.inverse) (subst (IsUnitIn A) back (unit_minus_nilpotent A (A.unit ⊟ A.product x (lift_of A I C i.inverse)) (member_nilpotent A I s v (A.unit ⊟ A.product x (lift_of A I C i.inverse)) congruent)))
      where
        congruent : IsCongruent I A.unit (A.product x (lift_of A I C i.inverse))
        congruent = congruent_of_class A I C A.unit (A.product x (lift_of A I C i.inverse))
            (ring_unit ∙ sym i.right ∙ ap (R.ring.product (class_of A I C x)) (sym (class-lift A I C i.inverse)) ∙ sym (ring_product x (lift_of A I C i.inverse)))

        back : A.unit ⊟ (A.unit ⊟ A.product x (lift_of A I C i.inverse)) ≡ A.product x (lift_of A I C i.inverse)
        back = simp (products, sums)

    pub nilpotent_of_class : (x : Element A) → IsNilpotentIn R.ring (class_of A I C x) → IsNilpotentIn A x
    nilpotent_of_class x n = up (member_nilpotent A I s v (power_in A x n.exponent) (member_of_class A I C (power_in A x n.exponent) (class_power x n.exponent ∙ n.vanishes)))
      where
        up : IsNilpotentIn A (power_in A x n.exponent) → IsNilpotentIn A x
        up m = record { exponent = n.exponent * m.exponent; vanishes = sym (power_in-power A x n.exponent m.exponent) ∙ m.vanishes }

-- The places of the coordinates are those that are no pivots of the ideal.
module _ {q : Gf} (A : Algebra q) {k : ℕ} (I : Mat q k A.size) (pivot : ℕ → ℕ) (d : IsRowReduced I pivot) (R : ResidueRing A I) where
  rows_vanish : I · R.class ≡ zeros q k R.ring.size
  rows_vanish = rows_equal _ _ (λ i l. row-mul i I R.class ∙ R.vanishes (row i I) (row_in_span I I i (in_span_self I)) ∙ sym (row_zeros q k R.ring.size i))

  pub place_no_pivot : (i j : ℕ) → i < k → j < R.ring.size → pivot i ≢ R.place j
  place_no_pivot i j h l = pivot_no_place I R.class pivot R.place d R.coreduced rows_vanish i j h l

  pub places_are_all : k + R.ring.size ≡ A.size
  places_are_all = pivots_and_places I R.class pivot R.place d R.coreduced rows_vanish R.kernel
