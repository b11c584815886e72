-- An endomorphism of a sum of local modules, pairwise apart, whose components from each member to itself are isomorphisms is an isomorphism.
use Rattle.std.proofs.Common.{◌≡◌, refl, sym, ap, ap₂, ◌∙◌, subst}
use Rattle.linear_algebra.specs.Field.{Gf}
use Rattle.representations.specs.Quiver.{Quiver}
use Rattle.representations.specs.Rep.{Rep}
use Rattle.representations.specs.Hom.{Hom, ◌≫◌, ◌⊕◌, identity, zero_hom, negative_hom}
use Rattle.representations.specs.Module.{IsIso, IsNilpotent}
use Rattle.representations.proofs.Homs.{compose_assoc, compose_identity, identity_compose, compose_zero, zero_compose, sum_assoc, sum_zero, zero_sum, sum_negative, compose_sum, sum_compose, compose_negative, negative_compose, power-suc, power-zero}
use Rattle.local_modules.proofs.LocalRings.{iso_first, iso_second}
use Rattle.local_modules.proofs.TwoParts.{TwoParts}

pub negative_zero : {q : Gf} {Q : Quiver} (X Y : Rep q Q) → negative_hom (zero_hom X Y) ≡ zero_hom X Y
negative_zero X Y = sym (zero_sum (negative_hom (zero_hom X Y))) ∙ sum_negative (zero_hom X Y)

module _ {q : Gf} {Q : Quiver} {A B X : Rep q Q} (s : TwoParts A B X) where
  -- what goes from the first part to the second alone, or back, has the square zero
  up : Hom B X → Hom A A
  up n = s.out_first ≫ (n ≫ s.in_second)

  down : Hom X B → Hom A A
  down n = s.out_second ≫ (n ≫ s.in_first)

  square_zero : (f g : Hom A A) → f ≫ g ≡ zero_hom A A → f ≡ g → IsNilpotent f
  square_zero f g e same = record {
    exponent = 2;
    vanishes = power-suc f 1 ∙ ap (λ z. f ≫ z) (power-suc f 0 ∙ ap (λ z. f ≫ z) (power-zero f) ∙ compose_identity f ∙ same) ∙ e;
  }

  up_nilpotent : (n : Hom B X) → IsNilpotent (up n)
  unfolding up
  up_nilpotent n = square_zero (s.out_first ≫ (n ≫ s.in_second)) (s.out_first ≫ (n ≫ s.in_second))
      (compose_assoc s.out_first (n ≫ s.in_second) (s.out_first ≫ (n ≫ s.in_second))
      ∙ ap (λ z. s.out_first ≫ z) (compose_assoc n s.in_second (s.out_first ≫ (n ≫ s.in_second))
      ∙ ap (λ z. n ≫ z) (sym (compose_assoc s.in_second s.out_first (n ≫ s.in_second)) ∙ ap (λ z. z ≫ (n ≫ s.in_second)) s.second_first ∙ zero_compose X (n ≫ s.in_second))
      ∙ compose_zero n A)
      ∙ compose_zero s.out_first A) refl

  down_nilpotent : (n : Hom X B) → IsNilpotent (down n)
  unfolding down
  down_nilpotent n = square_zero (s.out_second ≫ (n ≫ s.in_first)) (s.out_second ≫ (n ≫ s.in_first))
      (compose_assoc s.out_second (n ≫ s.in_first) (s.out_second ≫ (n ≫ s.in_first))
      ∙ ap (λ z. s.out_second ≫ z) (compose_assoc n s.in_first (s.out_second ≫ (n ≫ s.in_first))
      ∙ ap (λ z. n ≫ z) (sym (compose_assoc s.in_first s.out_second (n ≫ s.in_first)) ∙ ap (λ z. z ≫ (n ≫ s.in_first)) s.first_second ∙ zero_compose B (n ≫ s.in_first))
      ∙ compose_zero n A)
      ∙ compose_zero s.out_second A) refl

  -- the endomorphism that is u on the first part and p on the second
  both_parts : Hom B B → Hom X X → Hom A A
  both_parts u p = s.out_first ≫ (u ≫ s.in_first) ⊕ s.out_second ≫ (p ≫ s.in_second)

  -- two such, one behind the other
  both_compose : (u v : Hom B B) (p r : Hom X X) → both_parts u p ≫ both_parts v r ≡ both_parts (u ≫ v) (p ≫ r)
  unfolding both_parts
  both_compose u v p r =
      sum_compose (s.out_first ≫ (u ≫ s.in_first)) (s.out_second ≫ (p ≫ s.in_second)) (s.out_first ≫ (v ≫ s.in_first) ⊕ s.out_second ≫ (r ≫ s.in_second))
      ∙ ap₂ (λ x y. x ⊕ y)
      (compose_sum (s.out_first ≫ (u ≫ s.in_first)) (s.out_first ≫ (v ≫ s.in_first)) (s.out_second ≫ (r ≫ s.in_second))
      ∙ ap₂ (λ x y. x ⊕ y) (meet s.out_first u s.in_first s.out_first v s.in_first (identity B) s.first ∙ ap (λ z. s.out_first ≫ (z ≫ s.in_first)) (ap (λ z. z ≫ v) (compose_identity u)))
      (meet_zero s.out_first u s.in_first s.out_second r s.in_second s.first_second)
      ∙ sum_zero (s.out_first ≫ (u ≫ v ≫ s.in_first)))
      (compose_sum (s.out_second ≫ (p ≫ s.in_second)) (s.out_first ≫ (v ≫ s.in_first)) (s.out_second ≫ (r ≫ s.in_second))
      ∙ ap₂ (λ x y. x ⊕ y) (meet_zero s.out_second p s.in_second s.out_first v s.in_first s.second_first)
      (meet s.out_second p s.in_second s.out_second r s.in_second (identity X) s.second ∙ ap (λ z. s.out_second ≫ (z ≫ s.in_second)) (ap (λ z. z ≫ r) (compose_identity p)))
      ∙ zero_sum (s.out_second ≫ (p ≫ r ≫ s.in_second)))
    where
      meet : {C D E F : Rep q Q} (o : Hom A C) (u : Hom C D) (i : Hom D A) (o' : Hom A E) (v : Hom E F) (i' : Hom F A) (w : Hom D E) → i ≫ o' ≡ w → (o ≫ (u ≫ i)) ≫ (o' ≫ (v ≫ i')) ≡ o ≫ (u ≫ w ≫ v ≫ i')
      meet o u i o' v i' w e =
          compose_assoc o (u ≫ i) (o' ≫ (v ≫ i'))
          ∙ ap (λ z. o ≫ z) (compose_assoc u i (o' ≫ (v ≫ i')) ∙ ap (λ z. u ≫ z) (sym (compose_assoc i o' (v ≫ i')) ∙ ap (λ z. z ≫ (v ≫ i')) e)
          ∙ sym (compose_assoc u w (v ≫ i')) ∙ sym (compose_assoc (u ≫ w) v i'))

      meet_zero : {C D E F : Rep q Q} (o : Hom A C) (u : Hom C D) (i : Hom D A) (o' : Hom A E) (v : Hom E F) (i' : Hom F A) → i ≫ o' ≡ zero_hom D E → (o ≫ (u ≫ i)) ≫ (o' ≫ (v ≫ i')) ≡ zero_hom A A
      meet_zero {C} {D} {E} {F} o u i o' v i' e =
          meet o u i o' v i' (zero_hom D E) e
          ∙ ap (λ z. o ≫ z) (ap (λ z. z ≫ v ≫ i') (compose_zero u E) ∙ ap (λ z. z ≫ i') (zero_compose C v) ∙ zero_compose C i') ∙ compose_zero o A

  both_identity : both_parts (identity B) (identity X) ≡ identity A
  unfolding both_parts
  both_identity = ap₂ (λ x y. s.out_first ≫ x ⊕ s.out_second ≫ y) (identity_compose s.in_first) (identity_compose s.in_second) ∙ s.whole

  both_iso_parts : (u : Hom B B) (p : Hom X X) → IsIso u → IsIso p → IsIso (both_parts u p)
  both_iso_parts u p i j = record {
    inverse = both_parts i.inverse j.inverse;
    right = both_compose u i.inverse p j.inverse ∙ ap₂ both_parts i.right j.right ∙ both_identity;
    left = both_compose i.inverse u j.inverse p ∙ ap₂ both_parts i.left j.left ∙ both_identity;
  }

  -- homomorphisms out of A, and into it, by the parts
  pub equal_from : {C : Rep q Q} (f g : Hom A C) → s.in_first ≫ f ≡ s.in_first ≫ g → s.in_second ≫ f ≡ s.in_second ≫ g → f ≡ g
  equal_from f g e d =
      sym (split f) ∙ ap₂ (λ x y. s.out_first ≫ x ⊕ s.out_second ≫ y) e d ∙ split g
    where
      split : {C : Rep q Q} (h : Hom A C) → s.out_first ≫ (s.in_first ≫ h) ⊕ s.out_second ≫ (s.in_second ≫ h) ≡ h
      split h = ap₂ (λ x y. x ⊕ y) (sym (compose_assoc s.out_first s.in_first h)) (sym (compose_assoc s.out_second s.in_second h))
          ∙ sym (sum_compose (s.out_first ≫ s.in_first) (s.out_second ≫ s.in_second) h) ∙ ap (λ z. z ≫ h) s.whole ∙ identity_compose h

  pub equal_into : {C : Rep q Q} (f g : Hom C A) → f ≫ s.out_first ≡ g ≫ s.out_first → f ≫ s.out_second ≡ g ≫ s.out_second → f ≡ g
  equal_into f g e d =
      sym (split f) ∙ ap₂ (λ x y. x ≫ s.in_first ⊕ y ≫ s.in_second) e d ∙ split g
    where
      split : {C : Rep q Q} (h : Hom C A) → h ≫ s.out_first ≫ s.in_first ⊕ h ≫ s.out_second ≫ s.in_second ≡ h
      split h = ap₂ (λ x y. x ⊕ y) (compose_assoc h s.out_first s.in_first) (compose_assoc h s.out_second s.in_second)
          ∙ sym (compose_sum h (s.out_first ≫ s.in_first) (s.out_second ≫ s.in_second)) ∙ ap (λ z. h ≫ z) s.whole ∙ compose_identity h

  -- the components of what is u on the first part and p on the second
  first_both : (u : Hom B B) (p : Hom X X) → s.in_first ≫ both_parts u p ≡ u ≫ s.in_first
  unfolding both_parts
  first_both u p =
      compose_sum s.in_first (s.out_first ≫ (u ≫ s.in_first)) (s.out_second ≫ (p ≫ s.in_second))
      ∙ ap₂ (λ x y. x ⊕ y)
      (sym (compose_assoc s.in_first s.out_first (u ≫ s.in_first)) ∙ ap (λ z. z ≫ (u ≫ s.in_first)) s.first ∙ identity_compose (u ≫ s.in_first))
      (sym (compose_assoc s.in_first s.out_second (p ≫ s.in_second)) ∙ ap (λ z. z ≫ (p ≫ s.in_second)) s.first_second ∙ zero_compose B (p ≫ s.in_second))
      ∙ sum_zero (u ≫ s.in_first)

  second_both : (u : Hom B B) (p : Hom X X) → s.in_second ≫ both_parts u p ≡ p ≫ s.in_second
  unfolding both_parts
  second_both u p =
      compose_sum s.in_second (s.out_first ≫ (u ≫ s.in_first)) (s.out_second ≫ (p ≫ s.in_second))
      ∙ ap₂ (λ x y. x ⊕ y)
      (sym (compose_assoc s.in_second s.out_first (u ≫ s.in_first)) ∙ ap (λ z. z ≫ (u ≫ s.in_first)) s.second_first ∙ zero_compose X (u ≫ s.in_first))
      (sym (compose_assoc s.in_second s.out_second (p ≫ s.in_second)) ∙ ap (λ z. z ≫ (p ≫ s.in_second)) s.second ∙ identity_compose (p ≫ s.in_second))
      ∙ zero_sum (p ≫ s.in_second)

  module _ (x : Hom A A) (i : IsIso (s.in_second ≫ x ≫ s.out_second)) where
    n : Hom B X
    n = s.in_first ≫ x ≫ s.out_second ≫ i.inverse

    m : Hom X B
    m = i.inverse ≫ (s.in_second ≫ x ≫ s.out_first)

    -- the component from the first part to itself less what goes through the second part
    unfoldable pub rest_of : Hom B B
    rest_of = s.in_first ≫ x ≫ s.out_first ⊕ negative_hom (s.in_first ≫ x ≫ s.out_second ≫ (i.inverse ≫ (s.in_second ≫ x ≫ s.out_first)))

    e : Hom A A
    e = identity A ⊕ negative_hom (up n)

    f : Hom A A
    f = identity A ⊕ negative_hom (down m)

    first_e : s.in_first ≫ e ≡ s.in_first ⊕ negative_hom (n ≫ s.in_second)
    unfolding e up
    first_e =
        compose_sum s.in_first (identity A) (negative_hom (s.out_first ≫ (n ≫ s.in_second)))
        ∙ ap₂ (λ y z. y ⊕ z) (compose_identity s.in_first) (compose_negative s.in_first (s.out_first ≫ (n ≫ s.in_second))
        ∙ ap negative_hom (sym (compose_assoc s.in_first s.out_first (n ≫ s.in_second)) ∙ ap (λ z. z ≫ (n ≫ s.in_second)) s.first ∙ identity_compose (n ≫ s.in_second)))

    second_e : s.in_second ≫ e ≡ s.in_second
    unfolding e up
    second_e =
        compose_sum s.in_second (identity A) (negative_hom (s.out_first ≫ (n ≫ s.in_second)))
        ∙ ap₂ (λ y z. y ⊕ z) (compose_identity s.in_second) (compose_negative s.in_second (s.out_first ≫ (n ≫ s.in_second))
        ∙ ap negative_hom (sym (compose_assoc s.in_second s.out_first (n ≫ s.in_second)) ∙ ap (λ z. z ≫ (n ≫ s.in_second)) s.second_first ∙ zero_compose X (n ≫ s.in_second))
        ∙ negative_zero X A)
        ∙ sum_zero s.in_second

    f_first : f ≫ s.out_first ≡ s.out_first ⊕ negative_hom (s.out_second ≫ m)
    unfolding f down
    f_first =
        sum_compose (identity A) (negative_hom (s.out_second ≫ (m ≫ s.in_first))) s.out_first
        ∙ ap₂ (λ y z. y ⊕ z) (identity_compose s.out_first) (negative_compose (s.out_second ≫ (m ≫ s.in_first)) s.out_first
        ∙ ap negative_hom (compose_assoc s.out_second (m ≫ s.in_first) s.out_first ∙ ap (λ z. s.out_second ≫ z) (compose_assoc m s.in_first s.out_first ∙ ap (λ z. m ≫ z) s.first ∙ compose_identity m)))

    f_second : f ≫ s.out_second ≡ s.out_second
    unfolding f down
    f_second =
        sum_compose (identity A) (negative_hom (s.out_second ≫ (m ≫ s.in_first))) s.out_second
        ∙ ap₂ (λ y z. y ⊕ z) (identity_compose s.out_second) (negative_compose (s.out_second ≫ (m ≫ s.in_first)) s.out_second
        ∙ ap negative_hom (compose_assoc s.out_second (m ≫ s.in_first) s.out_second ∙ ap (λ z. s.out_second ≫ z) (compose_assoc m s.in_first s.out_second ∙ ap (λ z. m ≫ z) s.first_second ∙ compose_zero m X) ∙ compose_zero s.out_second X)
        ∙ negative_zero A X)
        ∙ sum_zero s.out_second

    -- from the second part: x ≫ f is p there
    second_x_f : s.in_second ≫ (x ≫ f) ≡ s.in_second ≫ x ≫ s.out_second ≫ s.in_second
    unfolding m
    second_x_f = equal_into (s.in_second ≫ (x ≫ f)) (s.in_second ≫ x ≫ s.out_second ≫ s.in_second)
        (compose_assoc s.in_second (x ≫ f) s.out_first ∙ ap (λ z. s.in_second ≫ z) (compose_assoc x f s.out_first ∙ ap (λ z. x ≫ z) f_first) ∙ sym (compose_assoc s.in_second x (s.out_first ⊕ negative_hom (s.out_second ≫ m)))
        ∙ compose_sum (s.in_second ≫ x) s.out_first (negative_hom (s.out_second ≫ m))
        ∙ ap (λ z. s.in_second ≫ x ≫ s.out_first ⊕ z) (compose_negative (s.in_second ≫ x) (s.out_second ≫ m) ∙ ap negative_hom (sym (compose_assoc (s.in_second ≫ x) s.out_second m)
        ∙ sym (compose_assoc (s.in_second ≫ x ≫ s.out_second) i.inverse (s.in_second ≫ x ≫ s.out_first)) ∙ ap (λ z. z ≫ (s.in_second ≫ x ≫ s.out_first)) i.right ∙ identity_compose (s.in_second ≫ x ≫ s.out_first)))
        ∙ sum_negative (s.in_second ≫ x ≫ s.out_first)
        ∙ sym (compose_assoc (s.in_second ≫ x ≫ s.out_second) s.in_second s.out_first ∙ ap (λ z. s.in_second ≫ x ≫ s.out_second ≫ z) s.second_first ∙ compose_zero (s.in_second ≫ x ≫ s.out_second) B))
        (compose_assoc s.in_second (x ≫ f) s.out_second ∙ ap (λ z. s.in_second ≫ z) (compose_assoc x f s.out_second ∙ ap (λ z. x ≫ z) f_second) ∙ sym (compose_assoc s.in_second x s.out_second)
        ∙ sym (compose_assoc (s.in_second ≫ x ≫ s.out_second) s.in_second s.out_second ∙ ap (λ z. s.in_second ≫ x ≫ s.out_second ≫ z) s.second ∙ compose_identity (s.in_second ≫ x ≫ s.out_second)))

    -- from the first part: x ≫ f is the rest, and what goes to the second part
    first_x_f : s.in_first ≫ (x ≫ f) ≡ rest_of ≫ s.in_first ⊕ s.in_first ≫ x ≫ s.out_second ≫ s.in_second
    unfolding rest_of m
    first_x_f = equal_into (s.in_first ≫ (x ≫ f)) (rest_of ≫ s.in_first ⊕ s.in_first ≫ x ≫ s.out_second ≫ s.in_second)
        (compose_assoc s.in_first (x ≫ f) s.out_first ∙ ap (λ z. s.in_first ≫ z) (compose_assoc x f s.out_first ∙ ap (λ z. x ≫ z) f_first) ∙ sym (compose_assoc s.in_first x (s.out_first ⊕ negative_hom (s.out_second ≫ m)))
        ∙ compose_sum (s.in_first ≫ x) s.out_first (negative_hom (s.out_second ≫ m))
        ∙ ap (λ z. s.in_first ≫ x ≫ s.out_first ⊕ z) (compose_negative (s.in_first ≫ x) (s.out_second ≫ m) ∙ ap negative_hom (sym (compose_assoc (s.in_first ≫ x) s.out_second m)))
        ∙ sym (sum_compose (rest_of ≫ s.in_first) (s.in_first ≫ x ≫ s.out_second ≫ s.in_second) s.out_first
        ∙ ap₂ (λ y z. y ⊕ z) (compose_assoc rest_of s.in_first s.out_first ∙ ap (λ z. rest_of ≫ z) s.first ∙ compose_identity rest_of)
        (compose_assoc (s.in_first ≫ x ≫ s.out_second) s.in_second s.out_first ∙ ap (λ z. s.in_first ≫ x ≫ s.out_second ≫ z) s.second_first ∙ compose_zero (s.in_first ≫ x ≫ s.out_second) B)
        ∙ sum_zero rest_of))
        (compose_assoc s.in_first (x ≫ f) s.out_second ∙ ap (λ z. s.in_first ≫ z) (compose_assoc x f s.out_second ∙ ap (λ z. x ≫ z) f_second) ∙ sym (compose_assoc s.in_first x s.out_second)
        ∙ sym (sum_compose (rest_of ≫ s.in_first) (s.in_first ≫ x ≫ s.out_second ≫ s.in_second) s.out_second
        ∙ ap₂ (λ y z. y ⊕ z) (compose_assoc rest_of s.in_first s.out_second ∙ ap (λ z. rest_of ≫ z) s.first_second ∙ compose_zero rest_of X)
        (compose_assoc (s.in_first ≫ x ≫ s.out_second) s.in_second s.out_second ∙ ap (λ z. s.in_first ≫ x ≫ s.out_second ≫ z) s.second ∙ compose_identity (s.in_first ≫ x ≫ s.out_second))
        ∙ zero_sum (s.in_first ≫ x ≫ s.out_second)))

    eliminated : e ≫ (x ≫ f) ≡ both_parts rest_of (s.in_second ≫ x ≫ s.out_second)
    unfolding n
    eliminated = equal_from (e ≫ (x ≫ f)) (both_parts rest_of (s.in_second ≫ x ≫ s.out_second))
        (sym (compose_assoc s.in_first e (x ≫ f)) ∙ ap (λ z. z ≫ (x ≫ f)) first_e
        ∙ sum_compose s.in_first (negative_hom (n ≫ s.in_second)) (x ≫ f)
        ∙ ap₂ (λ y z. y ⊕ z) first_x_f (negative_compose (n ≫ s.in_second) (x ≫ f) ∙ ap negative_hom (compose_assoc n s.in_second (x ≫ f) ∙ ap (λ z. n ≫ z) second_x_f
        ∙ compose_assoc (s.in_first ≫ x ≫ s.out_second) i.inverse (s.in_second ≫ x ≫ s.out_second ≫ s.in_second)
        ∙ ap (λ z. s.in_first ≫ x ≫ s.out_second ≫ z) (sym (compose_assoc i.inverse (s.in_second ≫ x ≫ s.out_second) s.in_second) ∙ ap (λ z. z ≫ s.in_second) i.left ∙ identity_compose s.in_second)))
        ∙ sum_assoc (rest_of ≫ s.in_first) (s.in_first ≫ x ≫ s.out_second ≫ s.in_second) (negative_hom (s.in_first ≫ x ≫ s.out_second ≫ s.in_second))
        ∙ ap (λ z. rest_of ≫ s.in_first ⊕ z) (sum_negative (s.in_first ≫ x ≫ s.out_second ≫ s.in_second)) ∙ sum_zero (rest_of ≫ s.in_first)
        ∙ sym (first_both rest_of (s.in_second ≫ x ≫ s.out_second)))
        (sym (compose_assoc s.in_second e (x ≫ f)) ∙ ap (λ z. z ≫ (x ≫ f)) second_e ∙ second_x_f ∙ sym (second_both rest_of (s.in_second ≫ x ≫ s.out_second)))

    -- where the rest is an isomorphism, x is one
    pub iso_by_elimination : IsIso rest_of → IsIso x
    iso_by_elimination r =
        iso_first x f (iso_second e (x ≫ f) (subst IsIso (sym eliminated) (both_iso_parts rest_of (s.in_second ≫ x ≫ s.out_second) r i)))
