-- Injective and surjective homomorphisms cancel, and what vanishes or lies where it should factors through them.
use Rattle.std.proofs.Common.{ℕ, ◌≡◌, sym, ap, ◌∙◌}
use Rattle.linear_algebra.specs.Field.{Gf}
use Rattle.linear_algebra.specs.Matrix.{Mat, Row, zeros, ◌·◌}
use Rattle.linear_algebra.specs.Rank.{IsInSpan}
use Rattle.linear_algebra.proofs.MatrixLaws.{mul_assoc_mat}
use Rattle.linear_algebra.proofs.Solving.{injective_right_inverse, right_inverse_cancels, surjective_left_inverse, left_inverse_cancels}
use Rattle.linear_algebra.proofs.Exactness.{through_surjection}
use Rattle.representations.specs.Quiver.{Quiver}
use Rattle.representations.specs.Rep.{Rep}
use Rattle.representations.specs.Hom.{Hom, Hom-eq, ◌≫◌}
use Rattle.representations.specs.Module.{IsMono, IsEpi}
use Rattle.representations.specs.Factoring.{FactorsAfter, FactorsBefore}
use Rattle.representations.proofs.MatrixExtras.{span_of_rows}
use Rattle.representations.proofs.Homs.{compose-at, same-at}

module _ {q : Gf} {Q : Quiver} where
  -- Cancelling.
  pub epi_cancels : {X A Z : Rep q Q} (g : Hom X A) → IsEpi g → (k l : Hom A Z) → g ≫ k ≡ g ≫ l → k ≡ l
  epi_cancels g epi k l e = Hom-eq k l (λ v.
      left_inverse_cancels (g.at v) (surjective_left_inverse (g.at v) (epi v)) (k.at v) (l.at v) (sym (compose-at g k v) ∙ same-at e v ∙ compose-at g l v))

  pub mono_cancels : {X N Z : Rep q Q} (i : Hom N Z) → IsMono i → (k l : Hom X N) → k ≫ i ≡ l ≫ i → k ≡ l
  mono_cancels i mono k l e = Hom-eq k l (λ v.
      right_inverse_cancels (i.at v) (injective_right_inverse (i.at v) (mono v)) (k.at v) (l.at v) (sym (compose-at k i v) ∙ same-at e v ∙ compose-at l i v))

  -- Matrices that do what a factor should at each vertex make a homomorphism.
  pub after_epi : {X A Z : Rep q Q} (g : Hom X A) (u : Hom X Z) → IsEpi g → (k : (v : ℕ) → Mat q (A.dim v) (Z.dim v)) → ((v : ℕ) → g.at v · k v ≡ u.at v) → FactorsAfter g u
  after_epi {X} {A} {Z} g u epi k e = record { factor = h; is = is; once = λ l d. epi_cancels g epi l h (d ∙ sym is) }
    where
      square : (a : ℕ) → A.mat a · k (Q.target a) ≡ k (Q.source a) · Z.mat a
      square a = left_inverse_cancels (g.at (Q.source a)) (surjective_left_inverse (g.at (Q.source a)) (epi (Q.source a))) _ _
          (sym (mul_assoc_mat (g.at (Q.source a)) (A.mat a) (k (Q.target a)))
          ∙ ap (λ z. z · k (Q.target a)) (sym (g.square a)) ∙ mul_assoc_mat (X.mat a) (g.at (Q.target a)) (k (Q.target a))
          ∙ ap (λ z. X.mat a · z) (e (Q.target a)) ∙ u.square a ∙ ap (λ z. z · Z.mat a) (sym (e (Q.source a)))
          ∙ mul_assoc_mat (g.at (Q.source a)) (k (Q.source a)) (Z.mat a))

      h : Hom A Z
      h = record { at = k; square = square }

      is : g ≫ h ≡ u
      is = Hom-eq (g ≫ h) u (λ v. compose-at g h v ∙ e v)

  pub before_mono : {X N Z : Rep q Q} (i : Hom N Z) (u : Hom X Z) → IsMono i → (k : (v : ℕ) → Mat q (X.dim v) (N.dim v)) → ((v : ℕ) → k v · i.at v ≡ u.at v) → FactorsBefore i u
  before_mono {X} {N} {Z} i u mono k e = record { factor = h; is = is; once = λ l d. mono_cancels i mono l h (d ∙ sym is) }
    where
      square : (a : ℕ) → X.mat a · k (Q.target a) ≡ k (Q.source a) · N.mat a
      square a = right_inverse_cancels (i.at (Q.target a)) (injective_right_inverse (i.at (Q.target a)) (mono (Q.target a))) _ _
          (mul_assoc_mat (X.mat a) (k (Q.target a)) (i.at (Q.target a)) ∙ ap (λ z. X.mat a · z) (e (Q.target a)) ∙ u.square a
          ∙ ap (λ z. z · Z.mat a) (sym (e (Q.source a))) ∙ mul_assoc_mat (k (Q.source a)) (i.at (Q.source a)) (Z.mat a)
          ∙ ap (λ z. k (Q.source a) · z) (sym (i.square a)) ∙ sym (mul_assoc_mat (k (Q.source a)) (N.mat a) (i.at (Q.target a))))

      h : Hom X N
      h = record { at = k; square = square }

      is : h ≫ i ≡ u
      is = Hom-eq (h ≫ i) u (λ v. compose-at h i v ∙ e v)

  -- A homomorphism that vanishes wherever the surjection g does factors through it.
  pub through_epi : {X A Z : Rep q Q} (g : Hom X A) (u : Hom X Z) → IsEpi g
      → ((v : ℕ) (x : Row q (X.dim v)) → x · g.at v ≡ zeros q 1 (A.dim v) → x · u.at v ≡ zeros q 1 (Z.dim v)) → FactorsAfter g u
  through_epi g u epi h = after_epi g u epi (λ v. (surjective_left_inverse (g.at v) (epi v)).inverse · u.at v)
      (λ v. through_surjection (g.at v) (surjective_left_inverse (g.at v) (epi v)).inverse (surjective_left_inverse (g.at v) (epi v)).is (u.at v) (h v))

  -- A homomorphism whose rows are all reached by the injection i factors through it.
  pub through_mono : {X N Z : Rep q Q} (i : Hom N Z) (u : Hom X Z) → IsMono i
      → ((v : ℕ) (x : Row q (X.dim v)) → IsInSpan (i.at v) (x · u.at v)) → FactorsBefore i u
  through_mono i u mono h = before_mono i u mono (λ v. (span_of_rows (i.at v) (u.at v) (h v)).by) (λ v. (span_of_rows (i.at v) (u.at v) (h v)).is)
