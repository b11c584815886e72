-- From the right end to the left: where each homomorphism to M lifts or is a split epimorphism, g is none, and L is local, each homomorphism out of
-- L extends along f, or is a split monomorphism.
use Rattle.std.proofs.Common.{◌≡◌, ◌⊎◌, inl, inr, sym, ap, ◌∙◌}
use Rattle.linear_algebra.specs.Field.{Gf}
use Rattle.representations.specs.Quiver.{BoundQuiver}
use Rattle.representations.specs.Rep.{Rep, IsMod}
use Rattle.representations.specs.Hom.{Hom, ◌≫◌, ◌⊕◌, identity, zero_hom, negative_hom, power}
use Rattle.representations.specs.Module.{IsIso, IsNilpotent, IsSplitMono, IsSplitEpi}
use Rattle.representations.specs.Factoring.{FactorsBefore}
use Rattle.representations.specs.Kernel.{cokernel}
use Rattle.representations.proofs.Homs.{compose_assoc, compose_identity, identity_compose, zero_compose, compose_sum, sum_compose, compose_negative, negative_compose, sum_negative, sum_zero, negative_add_hom}
use Rattle.representations.proofs.Factoring.{epi_cancels, mono_cancels}
use Rattle.representations.proofs.Submodules.{IsMod-quotient}
use Rattle.representations.proofs.Kernels.{through_kernel, through_cokernel}
use Rattle.representations.proofs.Sums.{IsMod-sum}
use Rattle.local_modules.specs.Local.{IsLocal}
use Rattle.local_modules.proofs.LocalRings.{power-shift}
use Rattle.auslander_reiten.specs.AlmostSplit.{Lifts, Extends, IsShortExact}
use Rattle.auslander_reiten.proofs.Chains.{power-fixes}
use Rattle.auslander_reiten.proofs.Pushouts.{difference, pushout, from_middle, from_other, square, to_end, middle_end, other_end, other_mono, other_exact}

module _ {q : Gf} (A : BoundQuiver) {L E M : Rep q A.quiver} (f : Hom L E) (g : Hom E M) (e : IsShortExact f g) where
  -- Where the pushout along h splits, h extends.
  module _ {Y : Rep q A.quiver} (h : Hom L Y) (s : Hom M (pushout f g e h)) (is : s ≫ to_end f g e h ≡ identity M) where
    abbrev W : Rep q A.quiver
    W = pushout f g e h

    abbrev rest : Hom W W
    rest = identity W ⊕ negative_hom (to_end f g e h ≫ s)

    rest_end : rest ≫ to_end f g e h ≡ zero_hom W M
    rest_end =
        sum_compose (identity W) (negative_hom (to_end f g e h ≫ s)) (to_end f g e h)
        ∙ ap (λ z. identity W ≫ to_end f g e h ⊕ z) (
        negative_compose (to_end f g e h ≫ s) (to_end f g e h)
        ∙ ap negative_hom (compose_assoc (to_end f g e h) s (to_end f g e h) ∙ ap (λ z. to_end f g e h ≫ z) is ∙ compose_identity (to_end f g e h) ∙ sym (identity_compose (to_end f g e h))))
        ∙ sum_negative (identity W ≫ to_end f g e h)

    retraction : FactorsBefore (from_other f g e h) rest
    retraction = through_kernel (from_other f g e h) (to_end f g e h) (other_mono f g e h) (other_exact f g e h) rest rest_end

    other_rest : from_other f g e h ≫ rest ≡ from_other f g e h
    other_rest =
        compose_sum (from_other f g e h) (identity W) (negative_hom (to_end f g e h ≫ s))
        ∙ ap (λ z. from_other f g e h ≫ identity W ⊕ z) (compose_negative (from_other f g e h) (to_end f g e h ≫ s)
        ∙ ap negative_hom (sym (compose_assoc (from_other f g e h) (to_end f g e h) s) ∙ ap (λ z. z ≫ s) (other_end f g e h) ∙ zero_compose Y s)
        ∙ sym (sum_zero (negative_hom (zero_hom Y W))) ∙ negative_add_hom (zero_hom Y W))
        ∙ sum_zero (from_other f g e h ≫ identity W) ∙ compose_identity (from_other f g e h)

    retracts : from_other f g e h ≫ retraction.factor ≡ identity Y
    retracts = mono_cancels (from_other f g e h) (other_mono f g e h) (from_other f g e h ≫ retraction.factor) (identity Y) (
        compose_assoc (from_other f g e h) retraction.factor (from_other f g e h) ∙ ap (λ z. from_other f g e h ≫ z) retraction.is
        ∙ other_rest ∙ sym (identity_compose (from_other f g e h)))

    extends_by_split : Extends f h
    extends_by_split = record {
      extension = from_middle f g e h ≫ retraction.factor;
      is = sym (compose_assoc f (from_middle f g e h) retraction.factor) ∙ ap (λ z. z ≫ retraction.factor) (square f g e h)
          ∙ compose_assoc h (from_other f g e h) retraction.factor ∙ ap (λ z. h ≫ z) retracts ∙ compose_identity h;
    }

  module _ (not_split : IsSplitEpi g → ⊥) where
    -- An endomorphism of L that has one of E over M is not nilpotent.
    pub not_nilpotent : (n : Hom L L) (p : Hom E E) → n ≫ f ≡ f ≫ p → p ≫ g ≡ g → IsNilpotent n → ⊥
    not_nilpotent n p s fixes z =
        let m = through_cokernel f g e.onto e.exact (power p z.exponent) (
        sym (power-shift n p f s z.exponent) ∙ ap (λ y. y ≫ f) z.vanishes ∙ zero_compose L f) in
        not_split (record {
          section = m.factor;
          is = epi_cancels g e.onto (m.factor ≫ g) (identity M) (
              sym (compose_assoc g m.factor g) ∙ ap (λ y. y ≫ g) m.is ∙ power-fixes p g fixes z.exponent ∙ sym (compose_identity g));
        })

    -- Where the pushout along h lifts, h is a split monomorphism.
    module _ (local : IsLocal L) {Y : Rep q A.quiver} (h : Hom L Y) (l : Hom (pushout f g e h) E) (is : l ≫ g ≡ to_end f g e h) where
      through_left : FactorsBefore f (from_other f g e h ≫ l)
      through_left = through_kernel f g e.mono e.exact (from_other f g e h ≫ l) (
          compose_assoc (from_other f g e h) l g ∙ ap (λ z. from_other f g e h ≫ z) is ∙ other_end f g e h)

      over : h ≫ through_left.factor ≫ f ≡ f ≫ (from_middle f g e h ≫ l)
      over =
          compose_assoc h through_left.factor f ∙ ap (λ z. h ≫ z) through_left.is ∙ sym (compose_assoc h (from_other f g e h) l)
          ∙ ap (λ z. z ≫ l) (sym (square f g e h)) ∙ compose_assoc f (from_middle f g e h) l

      fixes_end : from_middle f g e h ≫ l ≫ g ≡ g
      fixes_end = compose_assoc (from_middle f g e h) l g ∙ ap (λ z. from_middle f g e h ≫ z) is ∙ middle_end f g e h

      splits : IsIso (h ≫ through_left.factor) ⊎ IsNilpotent (h ≫ through_left.factor) → IsSplitMono h
      splits (inl i) = record { retraction = through_left.factor ≫ i.inverse; is = sym (compose_assoc h through_left.factor i.inverse) ∙ i.right }
      splits (inr z) = absurd (not_nilpotent (h ≫ through_left.factor) (from_middle f g e h ≫ l) over fixes_end z)

      splits_by_lift : IsSplitMono h
      splits_by_lift = splits (local.decides (h ≫ through_left.factor))

    pub extends_or_splits : IsLocal L → IsMod A E → ((X : Rep q A.quiver) → IsMod A X → (y : Hom X M) → Lifts g y ⊎ IsSplitEpi y) → (Y : Rep q A.quiver) → IsMod A Y → (h : Hom L Y) → Extends f h ⊎ IsSplitMono h
    extends_or_splits local N each Y V h = elim (each (pushout f g e h) (IsMod-quotient A (cokernel (difference f g e h)) (IsMod-sum A E Y N V)) (to_end f g e h)) [
      | inl l ↦ inr (splits_by_lift local h l.lift l.is)
      | inr s ↦ inl (extends_by_split h s.section s.is)
    ]
