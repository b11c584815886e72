-- The translate of a local module that is not projective is local: an endomorphism of τM has companions on the presentation of M and on M, and is
-- nilpotent or invertible with them.
use Rattle.std.proofs.Common.{ℕ, ◌≡◌, ◌⊎◌, inl, inr, sym, ap, ◌∙◌}
use Rattle.linear_algebra.specs.Field.{Gf}
use Rattle.linear_algebra.specs.Matrix.{Row, zeros, ◌·◌}
use Rattle.linear_algebra.proofs.Subspaces.{through_zero}
use Rattle.representations.specs.Quiver.{BoundQuiver}
use Rattle.representations.specs.Rep.{Rep, IsMod}
use Rattle.representations.specs.Hom.{Hom, ◌≫◌, identity, zero_hom, power}
use Rattle.representations.specs.Module.{IsMono, IsIso, IsNilpotent, IsZero}
use Rattle.representations.specs.Factoring.{FactorsBefore}
use Rattle.representations.proofs.Homs.{compose_assoc, compose_identity, identity_compose, compose_zero, zero_compose, zero_multiple}
use Rattle.representations.proofs.Paths.{IsMod-mono}
use Rattle.representations.proofs.Factoring.{mono_cancels}
use Rattle.representations.proofs.Kernels.{IsExact-zero, through_kernel}
use Rattle.projectives.specs.Families.{projectives}
use Rattle.projectives.specs.TwoSided.{TwoSided}
use Rattle.projectives.specs.Injective.{injectives}
use Rattle.projectives.specs.Transposed.{nakayama}
use Rattle.projectives.proofs.Families.{projectives_mod, projectives_lift}
use Rattle.projectives.proofs.CoverUnique.{over_cover, iso_of_composites}
use Rattle.projectives.proofs.Nakayama.{injectives_mod, nakayama-compose, nakayama_full, nakayama_faithful, nakayama_iso, nakayama_reflects_split_mono, nakayama-power, nakayama-multiple}
use Rattle.projectives.proofs.Extending.{injectives_extend, injectives_injective}
use Rattle.local_modules.specs.Local.{IsLocal}
use Rattle.local_modules.proofs.LocalRings.{power-shift}
use Rattle.auslander_reiten.specs.Translates.{IsTranslate}
use Rattle.auslander_reiten.specs.SequenceData.{LocalPresentation}
use Rattle.auslander_reiten.proofs.Chains.{zero_on_rows, inverse-shift, lifted_inverse, nilpotent_of_power, nonzero_vertex}
use Rattle.auslander_reiten.proofs.Presentations.{lift_to_kernel, presentation_zero, through_cover, nilpotent_before, differential_splits}

pub nakayama-zero : {q : Gf} {A : BoundQuiver} (T : TwoSided q A) (k : ℕ) (v : ℕ → ℕ) (h : ℕ) (u : ℕ → ℕ) → nakayama T k v h u (zero_hom (projectives T.words k v) (projectives T.words h u)) ≡ zero_hom (injectives T k v) (injectives T h u)
nakayama-zero T k v h u =
    ap (nakayama T k v h u) (sym (zero_multiple (zero_hom (projectives T.words k v) (projectives T.words h u))))
    ∙ nakayama-multiple T k v h u 0 (zero_hom (projectives T.words k v) (projectives T.words h u)) ∙ zero_multiple _

module _ {q : Gf} {A : BoundQuiver} (T : TwoSided q A) {L M : Rep q A.quiver} (D : LocalPresentation T M) (i : Hom L (injectives T D.k D.v)) (left : IsTranslate T D.k D.v D.h D.u M D.d D.c i) where
  abbrev P : Rep q A.quiver
  P = projectives T.words D.k D.v

  abbrev P' : Rep q A.quiver
  P' = projectives T.words D.h D.u

  abbrev νP : Rep q A.quiver
  νP = injectives T D.k D.v

  abbrev νP' : Rep q A.quiver
  νP' = injectives T D.h D.u

  abbrev νd : Hom νP νP'
  νd = nakayama T D.k D.v D.h D.u D.d

  abbrev on_P : Hom P P → Hom νP νP
  on_P a = nakayama T D.k D.v D.k D.v a

  abbrev on_P' : Hom P' P' → Hom νP' νP'
  on_P' b = nakayama T D.h D.u D.h D.u b

  P_mod : IsMod A P
  P_mod = projectives_mod A T.words T.basis D.k D.v

  P'_mod : IsMod A P'
  P'_mod = projectives_mod A T.words T.basis D.h D.u

  pub translate_mod : IsMod A L
  translate_mod = IsMod-mono A i left.kernel.mono (injectives_mod T D.k D.v)

  left_zero : i ≫ νd ≡ zero_hom L νP'
  left_zero = IsExact-zero i νd left.kernel.exact

  -- Endomorphisms of P, of P' and of M that go with n through the presentation and its image under the Nakayama functor.
  pub record Companions (n : Hom L L) : Type 0 where
    pub on_first : Hom P P
    pub on_second : Hom P' P'
    pub on_end : Hom M M
    pub embedding : i ≫ on_P on_first ≡ n ≫ i
    pub differential : on_first ≫ D.d ≡ D.d ≫ on_second
    pub cover : D.c ≫ on_end ≡ on_second ≫ D.c

  -- first on νP and on νP'
  on_νP : (n : Hom L L) → (a : Hom νP νP) × (i ≫ a ≡ n ≫ i)
  on_νP n = injectives_injective T L νP translate_mod (injectives_mod T D.k D.v) i D.k D.v left.kernel.mono (n ≫ i)

  killed : (n : Hom L L) (a : Hom νP νP) → i ≫ a ≡ n ≫ i → i ≫ (a ≫ νd) ≡ zero_hom L νP'
  killed n a e = sym (compose_assoc i a νd) ∙ ap (λ z. z ≫ νd) e ∙ compose_assoc n i νd ∙ ap (λ z. n ≫ z) left_zero ∙ compose_zero n νP'

  killed_rows : (n : Hom L L) (a : Hom νP νP) → i ≫ a ≡ n ≫ i → (w : ℕ) (x : Row q (νP.dim w)) → x · νd.at w ≡ zeros q 1 (νP'.dim w) → x · (a ≫ νd).at w ≡ zeros q 1 (νP'.dim w)
  killed_rows n a e w x z =
      let s = left.kernel.exact.exact w x z in
      ap (λ y. y · (a ≫ νd).at w) (sym s.is) ∙ zero_on_rows i (a ≫ νd) (killed n a e) w s.by

  on_νP' : (n : Hom L L) (a : Hom νP νP) → i ≫ a ≡ n ≫ i → (b : Hom νP' νP') × (νd ≫ b ≡ a ≫ νd)
  on_νP' n a e = injectives_extend T D.h D.u νP νP' (injectives_mod T D.k D.v) (injectives_mod T D.h D.u) νd (a ≫ νd) (killed_rows n a e)

  -- then on P and on P'
  square_below : (a : Hom P P) (b : Hom P' P') → νd ≫ on_P' b ≡ on_P a ≫ νd → a ≫ D.d ≡ D.d ≫ b
  square_below a b e = nakayama_faithful T D.k D.v D.h D.u (a ≫ D.d) (D.d ≫ b) (
      nakayama-compose T D.k D.v D.k D.v D.h D.u a D.d ∙ sym e ∙ sym (nakayama-compose T D.k D.v D.h D.u D.h D.u D.d b))

  square_above : (a : Hom P P) (b : Hom P' P') → a ≫ D.d ≡ D.d ≫ b → on_P a ≫ νd ≡ νd ≫ on_P' b
  square_above a b e = sym (nakayama-compose T D.k D.v D.k D.v D.h D.u a D.d) ∙ ap (nakayama T D.k D.v D.h D.u) e ∙ nakayama-compose T D.k D.v D.h D.u D.h D.u D.d b

  companions_of : (n : Hom L L) (a : Hom P P) (b : Hom P' P') → i ≫ on_P a ≡ n ≫ i → a ≫ D.d ≡ D.d ≫ b → Companions n
  companions_of n a b e s =
      let x = through_cover D.d D.c D.presentation (b ≫ D.c) (
      sym (compose_assoc D.d b D.c) ∙ ap (λ z. z ≫ D.c) (sym s) ∙ compose_assoc a D.d D.c ∙ ap (λ z. a ≫ z) (presentation_zero D.d D.c D.presentation) ∙ compose_zero a M) in
      record { on_first = a; on_second = b; on_end = x.factor; embedding = e; differential = s; cover = x.is }

  pub companions : (n : Hom L L) → Companions n
  companions n =
      let x = on_νP n in
      let y = on_νP' n x.0 x.1 in
      let a = nakayama_full T D.k D.v D.k D.v x.0 in
      let b = nakayama_full T D.h D.u D.h D.u y.0 in
      companions_of n a.by b.by (ap (λ z. i ≫ z) a.is ∙ x.1) (square_below a.by b.by (ap (λ z. νd ≫ z) b.is ∙ y.1 ∙ ap (λ z. z ≫ νd) (sym a.is)))

  -- With a nilpotent endomorphism of M, all are nilpotent.
  module _ (n : Hom L L) (p : Companions n) where
    second_nilpotent : IsNilpotent p.on_end → IsNilpotent p.on_second
    second_nilpotent z = nilpotent_of_power p.on_second z.exponent (nilpotent_before A P'_mod D.c D.presentation.minimal_cover (power p.on_second z.exponent) (
        power-shift p.on_second p.on_end D.c (sym p.cover) z.exponent ∙ ap (λ y. D.c ≫ y) z.vanishes ∙ compose_zero D.c M))

    first_nilpotent : IsNilpotent p.on_second → IsNilpotent p.on_first
    first_nilpotent z = nilpotent_of_power p.on_first z.exponent (nilpotent_before A P_mod D.d D.presentation.minimal (power p.on_first z.exponent) (
        power-shift p.on_first p.on_second D.d p.differential z.exponent ∙ ap (λ y. D.d ≫ y) z.vanishes ∙ compose_zero D.d P'))

    nilpotent_above : IsNilpotent p.on_first → IsNilpotent n
    nilpotent_above z = record {
      exponent = z.exponent;
      vanishes = mono_cancels i left.kernel.mono (power n z.exponent) (zero_hom L L) (
          power-shift n (on_P p.on_first) i (sym p.embedding) z.exponent
          ∙ ap (λ y. i ≫ y) (sym (nakayama-power T D.k D.v p.on_first z.exponent) ∙ ap on_P z.vanishes ∙ nakayama-zero T D.k D.v D.k D.v)
          ∙ compose_zero i νP ∙ sym (zero_compose L i));
    }

    -- With an invertible endomorphism of M, all are invertible.
    second_iso : IsIso p.on_end → IsIso p.on_second
    second_iso j =
        let x = projectives_lift A T.words T.basis D.h D.u P' M P'_mod D.is_module D.c D.presentation.onto (D.c ≫ j.inverse) in
        iso_of_composites p.on_second x.0
        (over_cover A P'_mod D.c D.presentation.minimal_cover (p.on_second ≫ x.0) (lifted_inverse p.on_second x.0 D.c p.on_end j.inverse (sym p.cover) x.1 j.right))
        (over_cover A P'_mod D.c D.presentation.minimal_cover (x.0 ≫ p.on_second) (lifted_inverse x.0 p.on_second D.c j.inverse p.on_end x.1 (sym p.cover) j.left))

    second_back : (j : IsIso p.on_end) (y : IsIso p.on_second) → (D.d ≫ y.inverse) ≫ D.c ≡ zero_hom P M
    second_back j y =
        compose_assoc D.d y.inverse D.c ∙ ap (λ z. D.d ≫ z) (inverse-shift p.on_second p.on_end D.c y j (sym p.cover))
        ∙ sym (compose_assoc D.d D.c j.inverse) ∙ ap (λ z. z ≫ j.inverse) (presentation_zero D.d D.c D.presentation) ∙ zero_compose P j.inverse

    first_iso : IsIso p.on_end → IsIso p.on_second → IsIso p.on_first
    first_iso j y =
        let x = lift_to_kernel A T.words T.basis D.k D.v P_mod P'_mod D.d D.c D.presentation.exact (D.d ≫ y.inverse) (second_back j y) in
        iso_of_composites p.on_first x.0
        (over_cover A P_mod D.d D.presentation.minimal (p.on_first ≫ x.0) (lifted_inverse p.on_first x.0 D.d p.on_second y.inverse p.differential x.1 y.right))
        (over_cover A P_mod D.d D.presentation.minimal (x.0 ≫ p.on_first) (lifted_inverse x.0 p.on_first D.d y.inverse p.on_second x.1 p.differential y.left))

    iso_above : IsIso (on_P p.on_first) → IsIso (on_P' p.on_second) → IsIso n
    iso_above a b = record {
      inverse = m.factor;
      right = mono_cancels i left.kernel.mono (n ≫ m.factor) (identity L) (
          compose_assoc n m.factor i ∙ ap (λ z. n ≫ z) m.is ∙ sym (compose_assoc n i a.inverse) ∙ ap (λ z. z ≫ a.inverse) (sym p.embedding)
          ∙ compose_assoc i (on_P p.on_first) a.inverse ∙ ap (λ z. i ≫ z) a.right ∙ compose_identity i ∙ sym (identity_compose i));
      left = mono_cancels i left.kernel.mono (m.factor ≫ n) (identity L) (
          compose_assoc m.factor n i ∙ ap (λ z. m.factor ≫ z) (sym p.embedding) ∙ sym (compose_assoc m.factor i (on_P p.on_first)) ∙ ap (λ z. z ≫ on_P p.on_first) m.is
          ∙ compose_assoc i a.inverse (on_P p.on_first) ∙ ap (λ z. i ≫ z) a.left ∙ compose_identity i ∙ sym (identity_compose i));
    }
      where
        m : FactorsBefore i (i ≫ a.inverse)
        m = through_kernel i νd left.kernel.mono left.kernel.exact (i ≫ a.inverse) (
            compose_assoc i a.inverse νd
            ∙ ap (λ z. i ≫ z) (inverse-shift (on_P p.on_first) (on_P' p.on_second) νd a b (square_above p.on_first p.on_second p.differential))
            ∙ sym (compose_assoc i νd b.inverse) ∙ ap (λ z. z ≫ b.inverse) left_zero ∙ zero_compose L b.inverse)

    pub nilpotent_with : IsNilpotent p.on_end → IsNilpotent n
    nilpotent_with z = nilpotent_above (first_nilpotent (second_nilpotent z))

    pub iso_with : IsIso p.on_end → IsIso n
    iso_with j = iso_above (nakayama_iso T D.k D.v D.k D.v p.on_first (first_iso j (second_iso j))) (nakayama_iso T D.h D.u D.h D.u p.on_second (second_iso j))

  -- τM is not zero.
  differential_mono : IsZero L → IsMono νd
  differential_mono z w x e = let s = left.kernel.exact.exact w x e in sym s.is ∙ through_zero s.by (i.at w) (z w)

  pub translate_nonzero : IsZero L → ⊥
  translate_nonzero z =
      let r = injectives_injective T νP νP' (injectives_mod T D.k D.v) (injectives_mod T D.h D.u) νd D.k D.v (differential_mono z) (identity νP) in
      let s = nakayama_reflects_split_mono T D.k D.v D.h D.u D.d (record { retraction = r.0; is = r.1 }) in
      D.not_projective (differential_splits D.d D.c D.presentation s.retraction s.is)

  -- τM is local.
  decided : (n : Hom L L) (p : Companions n) → IsIso p.on_end ⊎ IsNilpotent p.on_end → IsIso n ⊎ IsNilpotent n
  decided n p (inl j) = inl (iso_with n p j)
  decided n p (inr z) = inr (nilpotent_with n p z)

  pub translate_local : IsLocal L
  translate_local =
      let w = nonzero_vertex L translate_nonzero in
      record { vertex = w.0; nonzero = w.1; decides = λ n. decided n (companions n) (D.local.decides (companions n).on_end) }
