-- Minimal covers of a module are isomorphic.
use Rattle.std.proofs.Common.{ℕ, ◌≡◌, sym, ap, ap₂, ◌∙◌, subst}
use Rattle.linear_algebra.specs.Field.{Gf}
use Rattle.linear_algebra.specs.Matrix.{Row, one, ◌⊞◌, negative, ◌·◌}
use Rattle.linear_algebra.proofs.MatrixLaws.{add_mul_mat, mul_add_mat, negative_mul, mul_negative, mul_assoc_mat, mul_one_mat, add_negative, negative_sum, negative_negative}
use Rattle.linear_algebra.proofs.PartsLaws.{equal_on_rows}
use Rattle.linear_algebra.proofs.Products.{sums}
use Rattle.representations.specs.Quiver.{Quiver, BoundQuiver}
use Rattle.representations.specs.Rep.{Rep, IsMod}
use Rattle.representations.specs.Hom.{Hom, Hom-eq, ◌≫◌, ◌⊕◌, identity, negative_hom}
use Rattle.representations.specs.Module.{IsIso}
use Rattle.representations.specs.Radical.{IsInRadical}
use Rattle.representations.proofs.Homs.{compose_assoc, compose_identity, identity_compose, compose-at, same-at, identity-at, sum-at, negative-at}
use Rattle.representations.proofs.Endomorphisms.{one_minus_nilpotent_hom}
use Rattle.representations.proofs.Radical.{into_radical_nilpotent}
use Rattle.projectives.specs.Words.{Words, IsWordBasis}
use Rattle.projectives.specs.Families.{projectives}
use Rattle.projectives.specs.Covers.{KernelInRadical, IsMinimalCover}
use Rattle.projectives.proofs.Families.{projectives_mod, projectives_lift}

-- An endomorphism e with e ≫ f = f, where the kernel of f lies in the radical, is an isomorphism.
pub over_cover : {q : Gf} (A : BoundQuiver) {X Y : Rep q A.quiver} → IsMod A X → (f : Hom X Y) → KernelInRadical f → (e : Hom X X) → e ≫ f ≡ f → IsIso e
over_cover {q} A {X} {Y} M f minimal e s = subst IsIso back (one_minus_nilpotent_hom rest (record { exponent = A.bound; vanishes = into_radical_nilpotent A M rest small }))
  where
    rest : Hom X X
    rest = identity X ⊕ negative_hom e

    rest_rows : (w : ℕ) (x : Row q (X.dim w)) → x · rest.at w ≡ x ⊞ negative (x · e.at w)
    rest_rows w x =
        ap (λ z. x · z) (sum-at (identity X) (negative_hom e) w ∙ ap₂ (λ a b. a ⊞ b) (identity-at X w) (negative-at e w))
        ∙ mul_add_mat x (one q (X.dim w)) (negative (e.at w)) ∙ ap₂ (λ a b. a ⊞ b) (mul_one_mat x) (mul_negative x (e.at w))

    small : (w : ℕ) (x : Row q (X.dim w)) → IsInRadical X w (x · rest.at w)
    small w x = minimal w (x · rest.at w) (
        ap (λ z. z · f.at w) (rest_rows w x) ∙ add_mul_mat x (negative (x · e.at w)) (f.at w)
        ∙ ap (λ z. x · f.at w ⊞ z) (negative_mul (x · e.at w) (f.at w) ∙ ap negative (mul_assoc_mat x (e.at w) (f.at w) ∙ ap (λ z. x · z) (sym (compose-at e f w) ∙ same-at s w)))
        ∙ add_negative (x · f.at w))

    back : identity X ⊕ negative_hom rest ≡ e
    back = Hom-eq (identity X ⊕ negative_hom rest) e (λ w. equal_on_rows ((identity X ⊕ negative_hom rest).at w) (e.at w) (λ x.
        ap (λ z. x · z) (sum-at (identity X) (negative_hom rest) w ∙ ap₂ (λ a b. a ⊞ b) (identity-at X w) (negative-at rest w))
        ∙ mul_add_mat x (one q (X.dim w)) (negative (rest.at w)) ∙ ap₂ (λ a b. a ⊞ b) (mul_one_mat x) (mul_negative x (rest.at w))
        ∙ ap (λ z. x ⊞ negative z) (rest_rows w x) ∙ simp (negative_sum, negative_negative, sums)))

-- Isomorphisms, from an isomorphism on each side.
pub iso_of_composites : {q : Gf} {Q : Quiver} {X Y : Rep q Q} (h : Hom X Y) (k : Hom Y X) → IsIso (h ≫ k) → IsIso (k ≫ h) → IsIso h
iso_of_composites {X = X} {Y = Y} h k i j = record { inverse = k ≫ i.inverse; right = right; left = left }
  where
    right : h ≫ (k ≫ i.inverse) ≡ identity X
    right = sym (compose_assoc h k i.inverse) ∙ i.right

    other : j.inverse ≫ k ≫ h ≡ identity Y
    other = compose_assoc j.inverse k h ∙ j.left

    same : j.inverse ≫ k ≡ k ≫ i.inverse
    same =
        sym (compose_identity (j.inverse ≫ k)) ∙ ap (λ z. j.inverse ≫ k ≫ z) (sym right) ∙ sym (compose_assoc (j.inverse ≫ k) h (k ≫ i.inverse))
        ∙ ap (λ z. z ≫ (k ≫ i.inverse)) other ∙ identity_compose (k ≫ i.inverse)

    left : k ≫ i.inverse ≫ h ≡ identity Y
    left = ap (λ z. z ≫ h) (sym same) ∙ other

module _ {q : Gf} (A : BoundQuiver) (W : Words q A.quiver) (B : IsWordBasis A W) (k l : ℕ) (v u : ℕ → ℕ) (X : Rep q A.quiver) (M : IsMod A X)
    (f : Hom (projectives W k v) X) (g : Hom (projectives W l u) X) (c : IsMinimalCover A W B k v f) (d : IsMinimalCover A W B l u g) where
  pub covers_isomorphic : (h : Hom (projectives W k v) (projectives W l u)) × IsIso h × (h ≫ g ≡ f)
  covers_isomorphic =
      let h = projectives_lift A W B k v (projectives W l u) X (projectives_mod A W B l u) M g d.onto f in
      let b = projectives_lift A W B l u (projectives W k v) X (projectives_mod A W B k v) M f c.onto g in (
        h.0,
        iso_of_composites h.0 b.0
            (over_cover A (projectives_mod A W B k v) f c.minimal (h.0 ≫ b.0) (compose_assoc h.0 b.0 f ∙ ap (λ z. h.0 ≫ z) b.1 ∙ h.1))
            (over_cover A (projectives_mod A W B l u) g d.minimal (b.0 ≫ h.0) (compose_assoc b.0 h.0 g ∙ ap (λ z. b.0 ≫ z) h.1 ∙ b.1)),
        h.1,
      )
