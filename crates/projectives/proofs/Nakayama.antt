-- The Nakayama functor is a functor, linear, full and faithful: all this follows from the three rules of the pairing.
use Rattle.std.proofs.Common.{ℕ, zero, suc, ◌≡◌, refl, sym, ap, ap₂, ◌∙◌}
use Rattle.linear_algebra.specs.Field.{Gf}
use Rattle.linear_algebra.specs.Matrix.{Mat, ◌⊞◌, ◌⊙◌}
use Rattle.representations.specs.Quiver.{BoundQuiver, opposite_algebra}
use Rattle.representations.specs.Rep.{IsMod}
use Rattle.representations.specs.Hom.{Hom, ◌≫◌, ◌⊕◌, multiple, identity, power}
use Rattle.representations.specs.Module.{IsIso, IsSplitMono, IsSplitEpi}
use Rattle.representations.proofs.Duals.{dual_compose, dual_identity, dual_sum, dual_multiple}
use Rattle.representations.proofs.Homs.{power-zero, power-suc, compose_assoc, compose_identity, identity_compose, sum_compose, multiple_compose}
use Rattle.projectives.specs.Families.{projectives}
use Rattle.projectives.specs.TwoSided.{TwoSided, other}
use Rattle.projectives.specs.Injective.{injectives}
use Rattle.projectives.specs.Transposed.{transposed, nakayama, IsNakayama}
use Rattle.projectives.specs.Pairing.{IsFunctional, pairing, IsPairingBefore}
use Rattle.projectives.proofs.Families.{projectives_mod}
use Rattle.projectives.proofs.TwoSided.{IsMod-dual_back}
use Rattle.projectives.proofs.Pairing.{pairing-linear_after, pairing-linear_before, pairing-natural, equal_by_pairing}
use Rattle.projectives.proofs.Transposed.{nakayama_is}
use Rattle.projectives.proofs.Turning.{dual_injective}
use Rattle.projectives.proofs.PairingSides.{perfect_before, pairing-nakayama}

module _ {q : Gf} {A : BoundQuiver} (T : TwoSided q A) where
  pub injectives_mod : (k : ℕ) (v : ℕ → ℕ) → IsMod A (injectives T k v)
  injectives_mod k v = IsMod-dual_back A (projectives (other T) k v) (projectives_mod (opposite_algebra A) (other T) T.opposite_basis k v)

  module _ (k : ℕ) (v : ℕ → ℕ) (h : ℕ) (w : ℕ → ℕ) where
    -- A pairing with νd.
    pub pairing_with_nakayama : (d : Hom (projectives T.words k v) (projectives T.words h w)) (u : Hom (projectives T.words h w) (injectives T k v)) → pairing T h w u (nakayama T k v h w d) ≡ pairing T k v (d ≫ u) (identity (injectives T k v))
    pairing_with_nakayama d u =
        ap (pairing T h w u) (sym (identity_compose (nakayama T k v h w d)))
        ∙ sym (pairing-nakayama T k v h w (injectives T k v) (injectives_mod k v) u (identity (injectives T k v)) d)

    pub nakayama-sum : (d e : Hom (projectives T.words k v) (projectives T.words h w)) → nakayama T k v h w (d ⊕ e) ≡ nakayama T k v h w d ⊕ nakayama T k v h w e
    nakayama-sum d e = equal_by_pairing T h w (injectives T k v) (injectives_mod k v) _ _ (λ u.
        pairing_with_nakayama (d ⊕ e) u
        ∙ ap (λ z. pairing T k v z (identity (injectives T k v))) (sum_compose d e u)
        ∙ (pairing-linear_before T k v (injectives T k v) (identity (injectives T k v))).of_sum (d ≫ u) (e ≫ u)
        ∙ sym (ap₂ (λ a b. a ⊞ b) (pairing_with_nakayama d u) (pairing_with_nakayama e u))
        ∙ sym ((pairing-linear_after T h w (injectives T k v) u).of_sum (nakayama T k v h w d) (nakayama T k v h w e)))

    pub nakayama-multiple : (c : ℕ) (d : Hom (projectives T.words k v) (projectives T.words h w)) → nakayama T k v h w (multiple c d) ≡ multiple c (nakayama T k v h w d)
    nakayama-multiple c d = equal_by_pairing T h w (injectives T k v) (injectives_mod k v) _ _ (λ u.
        pairing_with_nakayama (multiple c d) u
        ∙ ap (λ z. pairing T k v z (identity (injectives T k v))) (multiple_compose c d u)
        ∙ (pairing-linear_before T k v (injectives T k v) (identity (injectives T k v))).of_multiple c (d ≫ u)
        ∙ ap (λ z. c ⊙ z) (sym (pairing_with_nakayama d u))
        ∙ sym ((pairing-linear_after T h w (injectives T k v) u).of_multiple c (nakayama T k v h w d)))

    -- Each homomorphism from νP to νP' is νd for exactly one d.
    module _ (s : Hom (injectives T k v) (injectives T h w)) where
      tested : Hom (projectives T.words h w) (injectives T k v) → Mat q 1 1
      tested y = pairing T h w (identity (projectives T.words h w)) (y ≫ s)

      tested_linear : IsFunctional tested
      unfolding tested
      tested_linear = record {
        of_sum = λ a b.
            ap (pairing T h w (identity (projectives T.words h w))) (sum_compose a b s)
            ∙ (pairing-linear_after T h w (projectives T.words h w) (identity (projectives T.words h w))).of_sum (a ≫ s) (b ≫ s);
        of_multiple = λ c a.
            ap (pairing T h w (identity (projectives T.words h w))) (multiple_compose c a s)
            ∙ (pairing-linear_after T h w (projectives T.words h w) (identity (projectives T.words h w))).of_multiple c (a ≫ s);
      }

      source : IsPairingBefore T k v tested
      source = perfect_before T k v (projectives T.words h w) (projectives_mod A T.words T.basis h w) tested tested_linear

      pub nakayama_full : IsNakayama T k v h w s
      unfolding tested
      nakayama_full = record {
        by = source.by;
        is = equal_by_pairing T h w (injectives T k v) (injectives_mod k v) (nakayama T k v h w source.by) s (λ u.
            pairing_with_nakayama source.by u
            ∙ pairing-natural T k v (projectives T.words h w) (injectives T k v) source.by u (identity (injectives T k v))
            ∙ ap (pairing T k v source.by) (compose_identity u) ∙ source.is u
            ∙ sym (pairing-natural T h w (projectives T.words h w) (injectives T k v) (identity (projectives T.words h w)) u s)
            ∙ ap (λ z. pairing T h w z s) (identity_compose u));
        once = λ d e. source.once d (λ y.
            ap (λ z. pairing T k v z y) (sym (compose_identity d))
            ∙ pairing-nakayama T k v h w (projectives T.words h w) (projectives_mod A T.words T.basis h w) (identity (projectives T.words h w)) y d
            ∙ ap (λ z. pairing T h w (identity (projectives T.words h w)) (y ≫ z)) e);
      }

      -- the homomorphism that it comes from
      pub from_nakayama : Hom (projectives T.words k v) (projectives T.words h w)
      from_nakayama = nakayama_full.by

    pub nakayama_faithful : (d e : Hom (projectives T.words k v) (projectives T.words h w)) → nakayama T k v h w d ≡ nakayama T k v h w e → d ≡ e
    nakayama_faithful d e p = (nakayama_full (nakayama T k v h w e)).once d p ∙ sym ((nakayama_full (nakayama T k v h w e)).once e refl)

  pub nakayama-identity : (k : ℕ) (v : ℕ → ℕ) → nakayama T k v k v (identity (projectives T.words k v)) ≡ identity (injectives T k v)
  nakayama-identity k v = equal_by_pairing T k v (injectives T k v) (injectives_mod k v) _ _ (λ u.
      pairing_with_nakayama k v k v (identity (projectives T.words k v)) u
      ∙ ap (λ z. pairing T k v z (identity (injectives T k v))) (identity_compose u))

  pub nakayama-compose : (k : ℕ) (v : ℕ → ℕ) (h : ℕ) (w : ℕ → ℕ) (l : ℕ) (x : ℕ → ℕ) (d : Hom (projectives T.words k v) (projectives T.words h w)) (e : Hom (projectives T.words h w) (projectives T.words l x))
      → nakayama T k v l x (d ≫ e) ≡ nakayama T k v h w d ≫ nakayama T h w l x e
  nakayama-compose k v h w l x d e = equal_by_pairing T l x (injectives T k v) (injectives_mod k v) _ _ (λ u.
      pairing_with_nakayama k v l x (d ≫ e) u
      ∙ ap (λ z. pairing T k v z (identity (injectives T k v))) (compose_assoc d e u)
      ∙ sym (pairing_with_nakayama k v h w d (e ≫ u))
      ∙ pairing-nakayama T h w l x (injectives T k v) (injectives_mod k v) u (nakayama T k v h w d) e)

-- A full and faithful functor keeps and reflects isomorphisms, reflects what splits, and goes with powers.
module _ {q : Gf} {A : BoundQuiver} (T : TwoSided q A) where
  pub nakayama-power : (k : ℕ) (v : ℕ → ℕ) (d : Hom (projectives T.words k v) (projectives T.words k v)) (n : ℕ) → nakayama T k v k v (power d n) ≡ power (nakayama T k v k v d) n
  nakayama-power k v d zero = ap (nakayama T k v k v) (power-zero d) ∙ nakayama-identity T k v ∙ sym (power-zero (nakayama T k v k v d))
  nakayama-power k v d (suc n) =
      ap (nakayama T k v k v) (power-suc d n) ∙ nakayama-compose T k v k v k v d (power d n)
      ∙ ap (λ z. nakayama T k v k v d ≫ z) (nakayama-power k v d n) ∙ sym (power-suc (nakayama T k v k v d) n)

  -- where composites of images are the identity
  composed_identity : (k : ℕ) (v : ℕ → ℕ) (h : ℕ) (w : ℕ → ℕ) (d : Hom (projectives T.words k v) (projectives T.words h w)) (s : Hom (injectives T h w) (injectives T k v))
      → nakayama T k v h w d ≫ s ≡ identity (injectives T k v) → d ≫ (nakayama_full T h w k v s).by ≡ identity (projectives T.words k v)
  composed_identity k v h w d s e = nakayama_faithful T k v k v _ _ (
      nakayama-compose T k v h w k v d (nakayama_full T h w k v s).by
      ∙ ap (λ z. nakayama T k v h w d ≫ z) (nakayama_full T h w k v s).is ∙ e ∙ sym (nakayama-identity T k v))

  identity_composed : (k : ℕ) (v : ℕ → ℕ) (h : ℕ) (w : ℕ → ℕ) (d : Hom (projectives T.words k v) (projectives T.words h w)) (s : Hom (injectives T h w) (injectives T k v))
      → s ≫ nakayama T k v h w d ≡ identity (injectives T h w) → (nakayama_full T h w k v s).by ≫ d ≡ identity (projectives T.words h w)
  identity_composed k v h w d s e = nakayama_faithful T h w h w _ _ (
      nakayama-compose T h w k v h w (nakayama_full T h w k v s).by d
      ∙ ap (λ z. z ≫ nakayama T k v h w d) (nakayama_full T h w k v s).is ∙ e ∙ sym (nakayama-identity T h w))

  module _ (k : ℕ) (v : ℕ → ℕ) (h : ℕ) (w : ℕ → ℕ) (d : Hom (projectives T.words k v) (projectives T.words h w)) where
    pub nakayama_iso : IsIso d → IsIso (nakayama T k v h w d)
    nakayama_iso i = record {
      inverse = nakayama T h w k v i.inverse;
      right = sym (nakayama-compose T k v h w k v d i.inverse) ∙ ap (nakayama T k v k v) i.right ∙ nakayama-identity T k v;
      left = sym (nakayama-compose T h w k v h w i.inverse d) ∙ ap (nakayama T h w h w) i.left ∙ nakayama-identity T h w;
    }

    pub nakayama_reflects_iso : IsIso (nakayama T k v h w d) → IsIso d
    nakayama_reflects_iso i = record {
      inverse = (nakayama_full T h w k v i.inverse).by;
      right = composed_identity k v h w d i.inverse i.right;
      left = identity_composed k v h w d i.inverse i.left;
    }

    pub nakayama_reflects_split_mono : IsSplitMono (nakayama T k v h w d) → IsSplitMono d
    nakayama_reflects_split_mono i = record { retraction = (nakayama_full T h w k v i.retraction).by; is = composed_identity k v h w d i.retraction i.is }

    pub nakayama_reflects_split_epi : IsSplitEpi (nakayama T k v h w d) → IsSplitEpi d
    nakayama_reflects_split_epi i = record { section = (nakayama_full T h w k v i.section).by; is = identity_composed k v h w d i.section i.is }

-- So the transposed goes with identities, composites, sums and multiples; it turns composites round.
module _ {q : Gf} {A : BoundQuiver} (T : TwoSided q A) where
  pub transposed-identity : (k : ℕ) (v : ℕ → ℕ) → transposed T k v k v (identity (projectives T.words k v)) ≡ identity (projectives (other T) k v)
  transposed-identity k v = dual_injective (projectives (other T) k v) (projectives (other T) k v) _ _ (
      sym (nakayama_is T k v k v (identity (projectives T.words k v))) ∙ nakayama-identity T k v ∙ sym (dual_identity (projectives (other T) k v)))

  pub transposed-compose : (k : ℕ) (v : ℕ → ℕ) (h : ℕ) (w : ℕ → ℕ) (l : ℕ) (x : ℕ → ℕ) (d : Hom (projectives T.words k v) (projectives T.words h w)) (e : Hom (projectives T.words h w) (projectives T.words l x))
      → transposed T k v l x (d ≫ e) ≡ transposed T h w l x e ≫ transposed T k v h w d
  transposed-compose k v h w l x d e = dual_injective (projectives (other T) l x) (projectives (other T) k v) _ _ (
      sym (nakayama_is T k v l x (d ≫ e)) ∙ nakayama-compose T k v h w l x d e
      ∙ ap₂ (λ a b. a ≫ b) (nakayama_is T k v h w d) (nakayama_is T h w l x e)
      ∙ sym (dual_compose (transposed T h w l x e) (transposed T k v h w d)))

  pub transposed-sum : (k : ℕ) (v : ℕ → ℕ) (h : ℕ) (w : ℕ → ℕ) (d e : Hom (projectives T.words k v) (projectives T.words h w)) → transposed T k v h w (d ⊕ e) ≡ transposed T k v h w d ⊕ transposed T k v h w e
  transposed-sum k v h w d e = dual_injective (projectives (other T) h w) (projectives (other T) k v) _ _ (
      sym (nakayama_is T k v h w (d ⊕ e)) ∙ nakayama-sum T k v h w d e
      ∙ ap₂ (λ a b. a ⊕ b) (nakayama_is T k v h w d) (nakayama_is T k v h w e)
      ∙ sym (dual_sum (transposed T k v h w d) (transposed T k v h w e)))

  pub transposed-multiple : (k : ℕ) (v : ℕ → ℕ) (h : ℕ) (w : ℕ → ℕ) (c : ℕ) (d : Hom (projectives T.words k v) (projectives T.words h w)) → transposed T k v h w (multiple c d) ≡ multiple c (transposed T k v h w d)
  transposed-multiple k v h w c d = dual_injective (projectives (other T) h w) (projectives (other T) k v) _ _ (
      sym (nakayama_is T k v h w (multiple c d)) ∙ nakayama-multiple T k v h w c d
      ∙ ap (multiple c) (nakayama_is T k v h w d)
      ∙ sym (dual_multiple c (transposed T k v h w d)))
