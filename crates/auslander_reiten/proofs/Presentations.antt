-- Minimal presentations by projective modules: lifting through them, factoring through the cokernel, and that what they cover is not projective.
use Rattle.std.proofs.Common.{ℕ, ◌≡◌, sym, ap, ◌∙◌, arith, subst, length}
use Rattle.linear_algebra.specs.Field.{Gf}
use Rattle.linear_algebra.specs.Matrix.{◌·◌}
use Rattle.linear_algebra.proofs.MatrixLaws.{mul_assoc_mat, mul_zeros, mul_one_mat}
use Rattle.representations.specs.Quiver.{BoundQuiver}
use Rattle.representations.specs.Rep.{Rep, IsMod}
use Rattle.representations.specs.Hom.{Hom, ◌≫◌, identity, zero_hom}
use Rattle.representations.specs.Module.{IsExact, IsIso, IsNilpotent, IsZero}
use Rattle.representations.specs.Radical.{IsInRadical}
use Rattle.representations.specs.Factoring.{FactorsAfter}
use Rattle.representations.proofs.Homs.{compose_assoc, compose_identity, zero_compose, same-at, zero_hom-at, compose-at, identity-at}
use Rattle.representations.proofs.Kernels.{IsExact-zero, through_cokernel}
use Rattle.representations.proofs.Radical.{into_radical_nilpotent, nakayama_zero, radical-hom}
use Rattle.projectives.specs.Words.{Words, IsWordBasis}
use Rattle.projectives.specs.Families.{projectives, generator_of}
use Rattle.projectives.specs.Covers.{KernelInRadical}
use Rattle.projectives.specs.TwoSided.{TwoSided}
use Rattle.projectives.specs.CanonicalCover.{vertex_in}
use Rattle.projectives.specs.Resolutions.{ProjectiveSequence, IsMinimalResolution}
use Rattle.projectives.proofs.Families.{projectives_mod, lift}
use Rattle.projectives.proofs.CoverUnique.{over_cover}
use Rattle.auslander_reiten.specs.Presentation.{IsMinimalPresentation}
use Rattle.auslander_reiten.proofs.Chains.{zero_on_rows}

-- A minimal resolution up to place 1 is a minimal presentation.
pub presentation_of_resolution : {q : Gf} {A : BoundQuiver} (T : TwoSided q A) (M : Rep q A.quiver) (R : ProjectiveSequence T.words M) → IsMinimalResolution T.words M R 1
    → IsMinimalPresentation T (length (R.term 1)) (vertex_in (R.term 1)) (length (R.term 0)) (vertex_in (R.term 0)) (R.differential 1) (R.differential 0)
presentation_of_resolution T M R m = record { onto = m.onto; exact = m.exact 0 (omega arith); minimal_cover = m.minimal 0 (omega arith); minimal = m.minimal 1 (omega arith) }

-- A homomorphism out of a sum of projective modules that is zero before c lifts along d, where d and c are exact.
pub lift_to_kernel : {q : Gf} (A : BoundQuiver) (W : Words q A.quiver) (B : IsWordBasis A W) (k : ℕ) (v : ℕ → ℕ) {P R M : Rep q A.quiver} → IsMod A P → IsMod A R → (d : Hom P R) (c : Hom R M) → IsExact d c
    → (y : Hom (projectives W k v) R) → y ≫ c ≡ zero_hom (projectives W k v) M → (x : Hom (projectives W k v) P) × (x ≫ d ≡ y)
lift_to_kernel A W B k v {P} {R} {M} N L d c exact y z = lift A W B k v P R N L d y (λ j l. exact.exact (v j) (generator_of A W B k v j · y.at (v j)) (zero_on_rows y c z (v j) (generator_of A W B k v j)))

-- An endomorphism that is zero before c, with the kernel of c in the radical, is nilpotent.
pub nilpotent_before : {q : Gf} (A : BoundQuiver) {R M : Rep q A.quiver} → IsMod A R → (c : Hom R M) → KernelInRadical c → (x : Hom R R) → x ≫ c ≡ zero_hom R M → IsNilpotent x
nilpotent_before A L c minimal x z = record { exponent = A.bound; vanishes = into_radical_nilpotent A L x (λ w y. minimal w (y · x.at w) (zero_on_rows x c z w y)) }

module _ {q : Gf} {A : BoundQuiver} {T : TwoSided q A} {k : ℕ} {v : ℕ → ℕ} {h : ℕ} {u : ℕ → ℕ} {M : Rep q A.quiver} (d : Hom (projectives T.words k v) (projectives T.words h u)) (c : Hom (projectives T.words h u) M) (p : IsMinimalPresentation T k v h u d c) where
  abbrev P : Rep q A.quiver
  P = projectives T.words k v

  abbrev R : Rep q A.quiver
  R = projectives T.words h u

  pub presentation_zero : d ≫ c ≡ zero_hom P M
  presentation_zero = IsExact-zero d c p.exact

  -- What d kills factors through c.
  pub through_cover : {X : Rep q A.quiver} (y : Hom R X) → d ≫ y ≡ zero_hom P X → FactorsAfter c y
  through_cover y z = through_cokernel d c p.onto p.exact y z

  N : IsMod A P
  N = projectives_mod A T.words T.basis k v

  L : IsMod A R
  L = projectives_mod A T.words T.basis h u

  -- Where d is zero, P is zero.
  zero_before : d ≡ zero_hom P R → IsZero P
  zero_before z = nakayama_zero A N (λ w x. p.minimal w x (ap (λ m. x · m) (same-at z w ∙ zero_hom-at P R w) ∙ mul_zeros x))

  -- Where c splits, P is zero: M is not projective, if P is not zero.
  pub cover_splits : (s : Hom M R) → s ≫ c ≡ identity M → IsZero P
  cover_splits s e = zero_before (
      sym (compose_identity d) ∙ ap (λ z. d ≫ z) (sym i.right) ∙ ap (λ z. d ≫ z) (compose_assoc c s i.inverse)
      ∙ sym (compose_assoc d c (s ≫ i.inverse)) ∙ ap (λ z. z ≫ (s ≫ i.inverse)) presentation_zero ∙ zero_compose P (s ≫ i.inverse))
    where
      i : IsIso (c ≫ s)
      i = over_cover A L c p.minimal_cover (c ≫ s) (compose_assoc c s c ∙ ap (λ z. c ≫ z) e ∙ compose_identity c)

  -- Where d splits, P is zero.
  pub differential_splits : (r : Hom R P) → d ≫ r ≡ identity P → IsZero P
  differential_splits r e = nakayama_zero A N (λ w x.
      subst (IsInRadical P w) (mul_assoc_mat x (d.at w) (r.at w) ∙ ap (λ z. x · z) (sym (compose-at d r w) ∙ same-at e w ∙ identity-at P w) ∙ mul_one_mat x)
      (radical-hom r (p.minimal_cover w (x · d.at w) (zero_on_rows d c presentation_zero w x))))
