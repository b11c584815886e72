-- Inverses along a homomorphism, powers, and rows through composites that are zero.
use Rattle.std.proofs.Common.{ℕ, zero, suc, ◌*◌, ◌+◌, ◌<◌, ◌≡◌, ◌≢◌, ◌⊎◌, inl, inr, sym, ap, ◌∙◌, arith}
use Rattle.linear_algebra.specs.Field.{Gf}
use Rattle.linear_algebra.specs.Matrix.{Mat, zeros, ◌·◌}
use Rattle.linear_algebra.proofs.MatrixLaws.{mul_assoc_mat, mul_zeros}
use Rattle.linear_algebra.proofs.Search.{search_or_all, zero_or_not}
use Rattle.std.proofs.lemmas.Bool.{cases_lt}
use Rattle.representations.specs.Quiver.{Quiver}
use Rattle.representations.specs.Rep.{Rep}
use Rattle.representations.specs.Hom.{Hom, ◌≫◌, ◌⊕◌, identity, zero_hom, negative_hom, power}
use Rattle.representations.specs.Module.{IsIso, IsNilpotent, IsZero}
use Rattle.representations.proofs.Homs.{compose_assoc, compose_identity, identity_compose, sum_zero, zero_sum, sum_assoc, negative_add_hom, power-zero, power-suc, power-add}
use Rattle.representations.proofs.Kernels.{complex_zero}

next : (m n : ℕ) → m + n * m ≡ suc n * m
next m n = omega arith

module _ {q : Gf} {Q : Quiver} where
  -- Rows through a composite that is zero.
  pub zero_on_rows : {X Y Z : Rep q Q} (f : Hom X Y) (g : Hom Y Z) → f ≫ g ≡ zero_hom X Z → {m : ℕ} (w : ℕ) (x : Mat q m (X.dim w)) → x · f.at w · g.at w ≡ zeros q m (Z.dim w)
  zero_on_rows f g e w x = mul_assoc_mat x (f.at w) (g.at w) ∙ ap (λ z. x · z) (complex_zero f g e w) ∙ mul_zeros x

  -- Where p and then g is g, so it is for the powers of p.
  pub power-fixes : {X Y : Rep q Q} (p : Hom X X) (g : Hom X Y) → p ≫ g ≡ g → (m : ℕ) → power p m ≫ g ≡ g
  power-fixes p g e zero = ap (λ z. z ≫ g) (power-zero p) ∙ identity_compose g
  power-fixes p g e (suc m) = ap (λ z. z ≫ g) (power-suc p m) ∙ compose_assoc p (power p m) g ∙ ap (λ z. p ≫ z) (power-fixes p g e m) ∙ e

  -- Where x and then f is f and then y, so it is for their inverses.
  pub inverse-shift : {X Y : Rep q Q} (x : Hom X X) (y : Hom Y Y) (f : Hom X Y) (i : IsIso x) (j : IsIso y) → x ≫ f ≡ f ≫ y → i.inverse ≫ f ≡ f ≫ j.inverse
  inverse-shift x y f i j e =
      sym (compose_identity (i.inverse ≫ f)) ∙ ap (λ z. i.inverse ≫ f ≫ z) (sym j.right) ∙ compose_assoc i.inverse f (y ≫ j.inverse)
      ∙ ap (λ z. i.inverse ≫ z) (sym (compose_assoc f y j.inverse) ∙ ap (λ z. z ≫ j.inverse) (sym e) ∙ compose_assoc x f j.inverse)
      ∙ sym (compose_assoc i.inverse x (f ≫ j.inverse)) ∙ ap (λ z. z ≫ (f ≫ j.inverse)) i.left ∙ identity_compose (f ≫ j.inverse)

  -- Where x and y lift s and its inverse along f, x and then y changes nothing before f.
  pub lifted_inverse : {X Y : Rep q Q} (x y : Hom X X) (f : Hom X Y) (s t : Hom Y Y) → x ≫ f ≡ f ≫ s → y ≫ f ≡ f ≫ t → s ≫ t ≡ identity Y → x ≫ y ≫ f ≡ f
  lifted_inverse x y f s t ex ey st =
      compose_assoc x y f ∙ ap (λ z. x ≫ z) ey ∙ sym (compose_assoc x f t) ∙ ap (λ z. z ≫ t) ex ∙ compose_assoc f s t ∙ ap (λ z. f ≫ z) st ∙ compose_identity f

  -- Powers of powers.
  pub power-mul : {X : Rep q Q} (x : Hom X X) (m n : ℕ) → power (power x m) n ≡ power x (n * m)
  power-mul x m zero = let none : zero ≡ zero * m = omega arith in power-zero (power x m) ∙ sym (power-zero x) ∙ ap (power x) none
  power-mul x m (suc n) = power-suc (power x m) n ∙ ap (λ z. power x m ≫ z) (power-mul x m n) ∙ sym (power-add x m (n * m)) ∙ ap (power x) (next m n)

  pub nilpotent_of_power : {X : Rep q Q} (x : Hom X X) (m : ℕ) → IsNilpotent (power x m) → IsNilpotent x
  nilpotent_of_power x m n = record { exponent = n.exponent * m; vanishes = sym (power-mul x m n.exponent) ∙ n.vanishes }

  -- There is a vertex at which a representation is not zero, or it is zero.
  pub nonzero_or_zero : (X : Rep q Q) → ((w : ℕ) × (X.dim w ≢ zero)) ⊎ IsZero X
  nonzero_or_zero X = go (search_or_all Q.vertices (λ w. X.dim w ≢ zero) (λ w. X.dim w ≡ zero) (λ w. zero_or_not (X.dim w)))
    where
      go : (((w : ℕ) × (w < Q.vertices) × (X.dim w ≢ zero)) ⊎ ((w : ℕ) → w < Q.vertices → X.dim w ≡ zero)) → ((w : ℕ) × (X.dim w ≢ zero)) ⊎ IsZero X
      go (inl f) = inl (f.0, f.2)
      go (inr all) = inr (λ w. elim (cases_lt w Q.vertices) [ inl l ↦ all w l | inr l ↦ X.past w l ])

  pub nonzero_vertex : (X : Rep q Q) → (IsZero X → ⊥) → (w : ℕ) × (X.dim w ≢ zero)
  nonzero_vertex X n = elim (nonzero_or_zero X) [ inl w ↦ w | inr z ↦ absurd (n z) ]

  -- What differs by zero is equal.
  pub equal_of_difference : {X Y : Rep q Q} (f g : Hom X Y) → f ⊕ negative_hom g ≡ zero_hom X Y → f ≡ g
  equal_of_difference {X} {Y} f g e =
      sym (sum_zero f) ∙ ap (λ z. f ⊕ z) (sym (negative_add_hom g)) ∙ sym (sum_assoc f (negative_hom g) g) ∙ ap (λ z. z ⊕ g) e ∙ zero_sum g
