-- What holds modulo an ideal is what holds in the residue ring.
use Rattle.std.proofs.Common.{ℕ, ◌≡◌, ◌≢◌, ◌⊎◌, inl, inr, sym, ap, ap₂, ◌∙◌}
use Rattle.linear_algebra.specs.Field.{Gf, order}
use Rattle.linear_algebra.specs.Matrix.{Mat, zeros, ◌⊙◌}
use Rattle.linear_algebra.proofs.Solving.{equal_or_not}
use Rattle.local_modules.specs.Algebra.{Algebra, Element, power_in, IsUnitIn, IsNilpotentIn}
use Rattle.local_modules.specs.Ideal.{PowerVanishes, IsCongruent, IsCommutativeModulo, IsFrobeniusField, IsUnitModulo, IsListedDivisionRing}
use Rattle.local_modules.specs.Residue.{ResidueRing}
use Rattle.local_modules.specs.Certificate.{LocalCertificate}
use Rattle.local_modules.proofs.AlgebraLaws.{unit_of_right}
use Rattle.local_modules.proofs.FrobeniusFields.{frobenius_field}
use Rattle.local_modules.proofs.ResidueRing.{class_of, lift_of, class-lift, class_multiple, class_of_member, member_of_class, class_same, congruent_of_class, Classes, classes_of, residue, ring_product, ring_unit, class_power, member_nilpotent, unit_of_class}

module _ {q : Gf} (A : Algebra q) {k : ℕ} (I : Mat q k A.size) (S : ResidueRing A I) where
  -- The residue ring.
  abbrev R : Algebra q
  R = S.ring

  abbrev C : Classes I
  C = classes_of S

  power_of_lift : (y : Element R) (e : ℕ) → class_of A I C (power_in A (lift_of A I C y) e) ≡ power_in R y e
  power_of_lift y e = class_power A I S (lift_of A I C y) e ∙ ap (λ z. power_in R z e) (class-lift A I C y)

  pub commutes_residue : IsCommutativeModulo A I → (x y : Element R) → R.product x y ≡ R.product y x
  commutes_residue c x y = sym (lifts x y) ∙ class_same A I C _ _ (c (lift_of A I C x) (lift_of A I C y)) ∙ lifts y x
    where
      lifts : (x y : Element R) → class_of A I C (A.product (lift_of A I C x) (lift_of A I C y)) ≡ R.product x y
      lifts x y = ring_product A I S (lift_of A I C x) (lift_of A I C y) ∙ ap₂ R.product (class-lift A I C x) (class-lift A I C y)

  pub commutes_modulo : ((x y : Element R) → R.product x y ≡ R.product y x) → IsCommutativeModulo A I
  commutes_modulo c x y = congruent_of_class A I C _ _ (ring_product A I S x y ∙ c (class_of A I C x) (class_of A I C y) ∙ sym (ring_product A I S y x))

  -- Frobenius fields.
  module _ (f : IsFrobeniusField A I) where
    pub injective_residue : (x y : Element R) → power_in R x (order q) ≡ power_in R y (order q) → x ≡ y
    injective_residue x y e =
        sym (class-lift A I C x)
        ∙ class_same A I C _ _ (f.injective (lift_of A I C x) (lift_of A I C y) (congruent_of_class A I C _ _ (power_of_lift x (order q) ∙ e ∙ sym (power_of_lift y (order q)))))
        ∙ class-lift A I C y

    pub fixed_residue : (y : Element R) → power_in R y (order q) ≡ y → (c : ℕ) × (y ≡ c ⊙ class_of A I C f.fixed)
    fixed_residue y e = go (f.all_fixed (lift_of A I C y) (congruent_of_class A I C _ _ (power_of_lift y (order q) ∙ e ∙ sym (class-lift A I C y))))
      where
        go : (c : ℕ) × IsCongruent I (lift_of A I C y) (c ⊙ f.fixed) → (c : ℕ) × (y ≡ c ⊙ class_of A I C f.fixed)
        go s = (s.0, sym (class-lift A I C y) ∙ class_same A I C _ _ s.1 ∙ class_multiple A I C s.0 f.fixed)

    pub frobenius_residue : (y : Element R) → (y ≡ zeros q 1 C.size) ⊎ IsUnitIn R y
    frobenius_residue y = frobenius_field R injective_residue (commutes_residue f.commutative) (class_of A I C f.fixed) (λ z. f.fixed_nonzero (member_of_class A I C f.fixed z)) fixed_residue y

  -- and back
  pub frobenius_modulo : ((x y : Element R) → R.product x y ≡ R.product y x) → ((x y : Element R) → power_in R x (order q) ≡ power_in R y (order q) → x ≡ y)
      → (v : Element R) → v ≢ zeros q 1 C.size → power_in R v (order q) ≡ v → ((y : Element R) → power_in R y (order q) ≡ y → (c : ℕ) × (y ≡ c ⊙ v)) → IsFrobeniusField A I
  frobenius_modulo c i v n e all = record {
    commutative = commutes_modulo c;
    injective = λ x y s. congruent_of_class A I C x y (i _ _ (sym (class_power A I S x (order q)) ∙ class_same A I C _ _ s ∙ class_power A I S y (order q)));
    fixed = lift_of A I C v;
    fixed_nonzero = λ s. n (sym (class-lift A I C v) ∙ class_of_member A I C _ s);
    is_fixed = congruent_of_class A I C _ _ (power_of_lift v (order q) ∙ e ∙ sym (class-lift A I C v));
    all_fixed = λ y s. back y (all (class_of A I C y) (sym (class_power A I S y (order q)) ∙ class_same A I C _ _ s));
  }
    where
      back : (y : Element A) → (c : ℕ) × (class_of A I C y ≡ c ⊙ v) → (c : ℕ) × IsCongruent I y (c ⊙ lift_of A I C v)
      back y s = (s.0, congruent_of_class A I C _ _ (s.1 ∙ ap (λ z. s.0 ⊙ z) (sym (class-lift A I C v)) ∙ sym (class_multiple A I C s.0 (lift_of A I C v))))

  -- Division rings.
  pub listed_residue : IsListedDivisionRing A I → (y : Element R) → (y ≡ zeros q 1 C.size) ⊎ IsUnitIn R y
  listed_residue d y = go (equal_or_not y (zeros q 1 C.size))
    where
      unit : IsUnitModulo A I (lift_of A I C y) → IsUnitIn R y
      unit m = unit_of_right R y (class_of A I C m.inverse)
          (ap (λ z. R.product z (class_of A I C m.inverse)) (sym (class-lift A I C y)) ∙ sym (ring_product A I S (lift_of A I C y) m.inverse) ∙ class_same A I C _ _ m.right ∙ ring_unit A I S)

      go : (y ≡ zeros q 1 C.size) ⊎ (y ≢ zeros q 1 C.size) → (y ≡ zeros q 1 C.size) ⊎ IsUnitIn R y
      go (inl e) = inl e
      go (inr n) = inr (unit (d.inverses (lift_of A I C y) (λ s. n (sym (class-lift A I C y) ∙ class_of_member A I C _ s))))

  pub unit_modulo : (x : Element A) → IsUnitIn R (class_of A I C x) → IsUnitModulo A I x
  unit_modulo x i = record {
    inverse = lift_of A I C i.inverse;
    right = congruent_of_class A I C _ _ (ring_product A I S x (lift_of A I C i.inverse) ∙ ap (R.product (class_of A I C x)) (class-lift A I C i.inverse) ∙ i.right ∙ sym (ring_unit A I S));
    left = congruent_of_class A I C _ _ (ring_product A I S (lift_of A I C i.inverse) x ∙ ap (λ z. R.product z (class_of A I C x)) (class-lift A I C i.inverse) ∙ i.left ∙ sym (ring_unit A I S));
  }

  -- Where each class is zero or invertible, and a power of the ideal is zero, each element is invertible or nilpotent.
  pub local_of_residue : (s : ℕ) → PowerVanishes A I s → ((y : Element R) → (y ≡ zeros q 1 C.size) ⊎ IsUnitIn R y) → (x : Element A) → IsUnitIn A x ⊎ IsNilpotentIn A x
  local_of_residue s v d x = elim (d (class_of A I C x)) [
    | inl z ↦ inr (member_nilpotent A I s v x (member_of_class A I C x z))
    | inr i ↦ inl (unit_of_class A I S s v x i)
  ]

-- An algebra with a certificate is local: each element is invertible or nilpotent.
pub certificate_local : {q : Gf} (A : Algebra q) → LocalCertificate A → (x : Element A) → IsUnitIn A x ⊎ IsNilpotentIn A x
certificate_local A c = local_of_residue A c.ideal (residue A c.ideal c.two_sided) c.power c.least_power.vanishes
    (λ y. elim c.residue [ inl f ↦ frobenius_residue A c.ideal (residue A c.ideal c.two_sided) f y | inr d ↦ listed_residue A c.ideal (residue A c.ideal c.two_sided) d y ])
