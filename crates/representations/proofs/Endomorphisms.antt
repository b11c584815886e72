-- Isomorphisms by vertices; nilpotent endomorphisms.
use Rattle.std.proofs.Common.{ℕ, ◌≡◌, sym, ap, ap₂, ◌∙◌, subst}
use Rattle.linear_algebra.specs.Field.{Gf}
use Rattle.linear_algebra.specs.Matrix.{one, ◌⊞◌, ◌⊟◌, ◌·◌}
use Rattle.linear_algebra.specs.Rank.{HasInverse}
use Rattle.linear_algebra.proofs.MatrixLaws.{mul_assoc_mat, mul_one_mat, one_mul_mat, difference}
use Rattle.linear_algebra.proofs.Inverses.{one_minus_nilpotent, inverse_of_both}
use Rattle.linear_algebra.proofs.Solving.{injective_right_inverse, surjective_left_inverse, right_inverse_injective, left_inverse_surjective, left_inverse_cancels}
use Rattle.representations.specs.Quiver.{Quiver}
use Rattle.representations.specs.Rep.{Rep}
use Rattle.representations.specs.Hom.{Hom, Hom-eq, ◌≫◌, identity, ◌⊕◌, negative_hom}
use Rattle.representations.specs.Module.{IsMono, IsEpi, IsIso, IsNilpotent}
use Rattle.representations.proofs.Homs.{compose-at, identity-at, zero_hom-at, sum-at, negative-at, same-at, power-at}

module _ {q : Gf} {Q : Quiver} where
  -- A homomorphism that is invertible at each vertex is an isomorphism.
  pub iso_by_vertices : {X Y : Rep q Q} (f : Hom X Y) → ((v : ℕ) → HasInverse (f.at v)) → IsIso f
  iso_by_vertices {X} {Y} f i = record { inverse = g; right = right; left = left }
    where
      square : (a : ℕ) → Y.mat a · (i (Q.target a)).inverse ≡ (i (Q.source a)).inverse · X.mat a
      square a = left_inverse_cancels (f.at (Q.source a)) (record { inverse = (i (Q.source a)).inverse; is = (i (Q.source a)).left }) _ _
          (sym (mul_assoc_mat (f.at (Q.source a)) (Y.mat a) (i (Q.target a)).inverse) ∙ ap (λ z. z · (i (Q.target a)).inverse) (sym (f.square a))
          ∙ mul_assoc_mat (X.mat a) (f.at (Q.target a)) (i (Q.target a)).inverse ∙ ap (λ z. X.mat a · z) (i (Q.target a)).right ∙ mul_one_mat (X.mat a)
          ∙ sym (one_mul_mat (X.mat a)) ∙ ap (λ z. z · X.mat a) (sym (i (Q.source a)).right) ∙ mul_assoc_mat (f.at (Q.source a)) (i (Q.source a)).inverse (X.mat a))

      g : Hom Y X
      g = record { at = λ v. (i v).inverse; square = square }

      right : f ≫ g ≡ identity X
      right = Hom-eq _ _ (λ v. compose-at f g v ∙ (i v).right ∙ sym (identity-at X v))

      left : g ≫ f ≡ identity Y
      left = Hom-eq _ _ (λ v. compose-at g f v ∙ (i v).left ∙ sym (identity-at Y v))

  pub iso_at : {X Y : Rep q Q} (f : Hom X Y) (i : IsIso f) (v : ℕ) → HasInverse (f.at v)
  iso_at {X} {Y} f i v = record {
    inverse = i.inverse.at v;
    right = sym (compose-at f i.inverse v) ∙ same-at i.right v ∙ identity-at X v;
    left = sym (compose-at i.inverse f v) ∙ same-at i.left v ∙ identity-at Y v;
  }

  -- Injective and surjective.
  pub iso_of_both : {X Y : Rep q Q} (f : Hom X Y) → IsMono f → IsEpi f → IsIso f
  iso_of_both f mono epi = iso_by_vertices f (λ v. inverse_of_both (f.at v) (surjective_left_inverse (f.at v) (epi v)) (injective_right_inverse (f.at v) (mono v)))

  pub iso_mono : {X Y : Rep q Q} (f : Hom X Y) → IsIso f → IsMono f
  iso_mono f i v = right_inverse_injective (f.at v) (record { inverse = (iso_at f i v).inverse; is = (iso_at f i v).right })

  pub iso_epi : {X Y : Rep q Q} (f : Hom X Y) → IsIso f → IsEpi f
  iso_epi f i v = left_inverse_surjective (f.at v) (record { inverse = (iso_at f i v).inverse; is = (iso_at f i v).left })

  -- 1 − x is invertible where x is nilpotent.
  pub one_minus_nilpotent_hom : {X : Rep q Q} (x : Hom X X) → IsNilpotent x → IsIso (identity X ⊕ negative_hom x)
  one_minus_nilpotent_hom {X} x n = iso_by_vertices (identity X ⊕ negative_hom x) (λ v.
      subst HasInverse (sym (at v)) (one_minus_nilpotent (x.at v) (record { exponent = n.exponent; vanishes = sym (power-at x n.exponent v) ∙ same-at n.vanishes v ∙ zero_hom-at X X v })))
    where
      at : (v : ℕ) → (identity X ⊕ negative_hom x).at v ≡ one q (X.dim v) ⊟ x.at v
      at v = sum-at (identity X) (negative_hom x) v ∙ ap₂ (λ a b. a ⊞ b) (identity-at X v) (negative-at x v) ∙ sym (difference (one q (X.dim v)) (x.at v))
