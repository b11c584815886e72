-- The translate and the transpose of a module do not depend on the presentation: two minimal presentations are isomorphic, and so are the kernels and
-- cokernels that belong to them.
use Rattle.std.proofs.Common.{ℕ, ◌≡◌, sym, ap, ◌∙◌}
use Rattle.linear_algebra.specs.Field.{Gf}
use Rattle.representations.specs.Quiver.{Quiver, opposite, BoundQuiver}
use Rattle.representations.specs.Rep.{Rep, IsMod}
use Rattle.representations.specs.Hom.{Hom, ◌≫◌, identity}
use Rattle.representations.specs.Module.{IsIso}
use Rattle.representations.specs.Factoring.{FactorsBefore, FactorsAfter}
use Rattle.representations.specs.KernelOf.{IsKernel, IsCokernel}
use Rattle.representations.proofs.Homs.{compose_assoc, compose_identity, identity_compose, compose_zero, zero_compose}
use Rattle.representations.proofs.Paths.{IsMod-epi}
use Rattle.representations.proofs.Factoring.{mono_cancels, epi_cancels}
use Rattle.representations.proofs.Kernels.{IsExact-zero, through_kernel, through_cokernel}
use Rattle.projectives.specs.Families.{projectives}
use Rattle.projectives.specs.TwoSided.{TwoSided, other}
use Rattle.projectives.specs.Injective.{injectives}
use Rattle.projectives.specs.Transposed.{transposed, nakayama}
use Rattle.projectives.proofs.Families.{projectives_mod}
use Rattle.projectives.proofs.CoverUnique.{over_cover, iso_of_composites, covers_isomorphic}
use Rattle.projectives.proofs.Nakayama.{nakayama-compose, nakayama_iso, transposed-compose, transposed-identity}
use Rattle.local_modules.specs.Isomorphic.{Isomorphic}
use Rattle.auslander_reiten.specs.Presentation.{IsMinimalPresentation, PresentationIsomorphism}
use Rattle.auslander_reiten.specs.Translates.{IsTranslate, IsTranspose}
use Rattle.auslander_reiten.proofs.Presentations.{lift_to_kernel, presentation_zero}

module _ {q : Gf} {Q : Quiver} where
  -- A square with isomorphisms, back.
  square_back : {X X' Y Y' : Rep q Q} (f : Hom X Y) (g : Hom X' Y') (x : Hom X X') (y : Hom Y Y') (i : IsIso x) (j : IsIso y) → x ≫ g ≡ f ≫ y → i.inverse ≫ f ≡ g ≫ j.inverse
  square_back f g x y i j e =
      sym (compose_identity (i.inverse ≫ f)) ∙ ap (λ z. i.inverse ≫ f ≫ z) (sym j.right) ∙ compose_assoc i.inverse f (y ≫ j.inverse)
      ∙ ap (λ z. i.inverse ≫ z) (sym (compose_assoc f y j.inverse) ∙ ap (λ z. z ≫ j.inverse) (sym e) ∙ compose_assoc x g j.inverse)
      ∙ sym (compose_assoc i.inverse x (g ≫ j.inverse)) ∙ ap (λ z. z ≫ (g ≫ j.inverse)) i.left ∙ identity_compose (g ≫ j.inverse)

  -- There and back over an isomorphism and its inverse changes nothing before f.
  there_and_back : {X X' Y Y' : Rep q Q} (f : Hom X Y) (g : Hom X' Y') (x : Hom X X') (y : Hom X' X) (s : Hom Y Y') (t : Hom Y' Y) → x ≫ g ≡ f ≫ s → y ≫ f ≡ g ≫ t → s ≫ t ≡ identity Y → x ≫ y ≫ f ≡ f
  there_and_back f g x y s t ex ey st =
      compose_assoc x y f ∙ ap (λ z. x ≫ z) ey ∙ sym (compose_assoc x g t) ∙ ap (λ z. z ≫ t) ex ∙ compose_assoc f s t ∙ ap (λ z. f ≫ z) st ∙ compose_identity f

  -- Kernels of isomorphic homomorphisms are isomorphic.
  module _ {N N' X X' Y Y' : Rep q Q} (i : Hom N X) (f : Hom X Y) (a : IsKernel i f) (j : Hom N' X') (g : Hom X' Y') (b : IsKernel j g) (x : Hom X X') (y : Hom Y Y') (e : x ≫ g ≡ f ≫ y) where
    on_kernels : FactorsBefore j (i ≫ x)
    on_kernels = through_kernel j g b.mono b.exact (i ≫ x) (
        compose_assoc i x g ∙ ap (λ z. i ≫ z) e ∙ sym (compose_assoc i f y) ∙ ap (λ z. z ≫ y) (IsExact-zero i f a.exact) ∙ zero_compose N y)

  kernels_once : {N N' X X' : Rep q Q} (i : Hom N X) (j : Hom N' X') (x : Hom X X') (y : Hom X' X) (m : FactorsBefore j (i ≫ x)) (n : FactorsBefore i (j ≫ y)) → x ≫ y ≡ identity X → m.factor ≫ n.factor ≫ i ≡ identity N ≫ i
  kernels_once i j x y m n e =
      compose_assoc m.factor n.factor i ∙ ap (λ z. m.factor ≫ z) n.is ∙ sym (compose_assoc m.factor j y) ∙ ap (λ z. z ≫ y) m.is ∙ compose_assoc i x y ∙ ap (λ z. i ≫ z) e
      ∙ compose_identity i ∙ sym (identity_compose i)

  pub kernels_isomorphic : {N N' X X' Y Y' : Rep q Q} (i : Hom N X) (f : Hom X Y) → IsKernel i f → (j : Hom N' X') (g : Hom X' Y') → IsKernel j g
      → (x : Hom X X') (y : Hom Y Y') → IsIso x → IsIso y → x ≫ g ≡ f ≫ y → Isomorphic N N'
  kernels_isomorphic {N} {N'} i f a j g b x y s t e =
      let m = on_kernels i f a j g b x y e in
      let n = on_kernels j g b i f a s.inverse t.inverse (square_back f g x y s t e) in
      record {
        forth = m.factor;
        iso = record {
          inverse = n.factor;
          right = mono_cancels i a.mono (m.factor ≫ n.factor) (identity N) (kernels_once i j x s.inverse m n s.right);
          left = mono_cancels j b.mono (n.factor ≫ m.factor) (identity N') (kernels_once j i s.inverse x n m s.left);
        };
      }

  -- And so are cokernels.
  module _ {N N' X X' Y Y' : Rep q Q} (f : Hom X Y) (p : Hom Y N) (a : IsCokernel f p) (g : Hom X' Y') (r : Hom Y' N') (b : IsCokernel g r) (x : Hom X X') (y : Hom Y Y') (e : x ≫ g ≡ f ≫ y) where
    on_cokernels : FactorsAfter p (y ≫ r)
    on_cokernels = through_cokernel f p a.onto a.exact (y ≫ r) (
        sym (compose_assoc f y r) ∙ ap (λ z. z ≫ r) (sym e) ∙ compose_assoc x g r ∙ ap (λ z. x ≫ z) (IsExact-zero g r b.exact) ∙ compose_zero x N')

  cokernels_once : {N N' Y Y' : Rep q Q} (p : Hom Y N) (r : Hom Y' N') (y : Hom Y Y') (x : Hom Y' Y) (m : FactorsAfter p (y ≫ r)) (n : FactorsAfter r (x ≫ p)) → y ≫ x ≡ identity Y → p ≫ (m.factor ≫ n.factor) ≡ p ≫ identity N
  cokernels_once p r y x m n e =
      sym (compose_assoc p m.factor n.factor) ∙ ap (λ z. z ≫ n.factor) m.is ∙ compose_assoc y r n.factor ∙ ap (λ z. y ≫ z) n.is ∙ sym (compose_assoc y x p) ∙ ap (λ z. z ≫ p) e
      ∙ identity_compose p ∙ sym (compose_identity p)

  pub cokernels_isomorphic : {N N' X X' Y Y' : Rep q Q} (f : Hom X Y) (p : Hom Y N) → IsCokernel f p → (g : Hom X' Y') (r : Hom Y' N') → IsCokernel g r
      → (x : Hom X X') (y : Hom Y Y') → IsIso x → IsIso y → x ≫ g ≡ f ≫ y → Isomorphic N N'
  cokernels_isomorphic {N} {N'} f p a g r b x y s t e =
      let m = on_cokernels f p a g r b x y e in
      let n = on_cokernels g r b f p a s.inverse t.inverse (square_back f g x y s t e) in
      record {
        forth = m.factor;
        iso = record {
          inverse = n.factor;
          right = epi_cancels p a.onto (m.factor ≫ n.factor) (identity N) (cokernels_once p r y t.inverse m n t.right);
          left = epi_cancels r b.onto (n.factor ≫ m.factor) (identity N') (cokernels_once r p t.inverse y n m t.left);
        };
      }

module _ {q : Gf} {A : BoundQuiver} (T : TwoSided q A) (k : ℕ) (v : ℕ → ℕ) (h : ℕ) (u : ℕ → ℕ) (d : Hom (projectives T.words k v) (projectives T.words h u)) (i : IsIso d) where
  transposed_iso : IsIso (transposed T k v h u d)
  transposed_iso = record {
    inverse = transposed T h u k v i.inverse;
    right = sym (transposed-compose T h u k v h u i.inverse d) ∙ ap (transposed T h u h u) i.left ∙ transposed-identity T h u;
    left = sym (transposed-compose T k v h u k v d i.inverse) ∙ ap (transposed T k v k v) i.right ∙ transposed-identity T k v;
  }

module _ {q : Gf} {A : BoundQuiver} (T : TwoSided q A) (k : ℕ) (v : ℕ → ℕ) (h : ℕ) (u : ℕ → ℕ) (l : ℕ) (w : ℕ → ℕ) (m : ℕ) (z : ℕ → ℕ) (M : Rep q A.quiver)
    (d : Hom (projectives T.words k v) (projectives T.words h u)) (c : Hom (projectives T.words h u) M)
    (e : Hom (projectives T.words l w) (projectives T.words m z)) (b : Hom (projectives T.words m z) M) where
  abbrev P : Rep q A.quiver
  P = projectives T.words k v

  abbrev P' : Rep q A.quiver
  P' = projectives T.words h u

  abbrev R : Rep q A.quiver
  R = projectives T.words l w

  abbrev R' : Rep q A.quiver
  R' = projectives T.words m z

  -- Two minimal presentations are isomorphic.
  module _ (p : IsMinimalPresentation T k v h u d c) (r : IsMinimalPresentation T l w m z e b) where
    P_mod : IsMod A P
    P_mod = projectives_mod A T.words T.basis k v

    P'_mod : IsMod A P'
    P'_mod = projectives_mod A T.words T.basis h u

    R_mod : IsMod A R
    R_mod = projectives_mod A T.words T.basis l w

    R'_mod : IsMod A R'
    R'_mod = projectives_mod A T.words T.basis m z

    second : (s : Hom P' R') × IsIso s × (s ≫ b ≡ c)
    second = covers_isomorphic A T.words T.basis h m u z M (IsMod-epi A c p.onto P'_mod) c b
        (record { onto = p.onto; minimal = p.minimal_cover }) (record { onto = r.onto; minimal = r.minimal_cover })

    second_back : second.1.inverse ≫ c ≡ b
    second_back = ap (λ y. second.1.inverse ≫ y) (sym second.2) ∙ sym (compose_assoc second.1.inverse second.0 b) ∙ ap (λ y. y ≫ b) second.1.left ∙ identity_compose b

    there : (x : Hom P R) × (x ≫ e ≡ d ≫ second.0)
    there = lift_to_kernel A T.words T.basis k v R_mod R'_mod e b r.exact (d ≫ second.0) (compose_assoc d second.0 b ∙ ap (λ y. d ≫ y) second.2 ∙ presentation_zero d c p)

    back : (y : Hom R P) × (y ≫ d ≡ e ≫ second.1.inverse)
    back = lift_to_kernel A T.words T.basis l w P_mod P'_mod d c p.exact (e ≫ second.1.inverse) (
        compose_assoc e second.1.inverse c ∙ ap (λ y. e ≫ y) second_back ∙ presentation_zero e b r)

    pub presentations_isomorphic : PresentationIsomorphism d c e b
    presentations_isomorphic = record {
      on_first = there.0;
      on_second = second.0;
      first_iso = iso_of_composites there.0 back.0
          (over_cover A P_mod d p.minimal (there.0 ≫ back.0) (there_and_back d e there.0 back.0 second.0 second.1.inverse there.1 back.1 second.1.right))
          (over_cover A R_mod e r.minimal (back.0 ≫ there.0) (there_and_back e d back.0 there.0 second.1.inverse second.0 back.1 there.1 second.1.left));
      second_iso = second.1;
      square = there.1;
      over = second.2;
    }

  -- So two translates of M are isomorphic, and two transposes of M.
  pub translates_isomorphic : {N N' : Rep q A.quiver} (i : Hom N (injectives T k v)) (j : Hom N' (injectives T l w)) → IsTranslate T k v h u M d c i → IsTranslate T l w m z M e b j → Isomorphic N N'
  translates_isomorphic i j s t =
      let p = presentations_isomorphic s.presentation t.presentation in
      kernels_isomorphic i (nakayama T k v h u d) s.kernel j (nakayama T l w m z e) t.kernel (nakayama T k v l w p.on_first) (nakayama T h u m z p.on_second)
      (nakayama_iso T k v l w p.on_first p.first_iso) (nakayama_iso T h u m z p.on_second p.second_iso)
      (sym (nakayama-compose T k v l w m z p.on_first e) ∙ ap (nakayama T k v m z) p.square ∙ nakayama-compose T k v h u m z d p.on_second)

  pub transposes_isomorphic : {N N' : Rep q (opposite A.quiver)} (f : Hom (projectives (other T) k v) N) (g : Hom (projectives (other T) l w) N')
      → IsTranspose T k v h u M d c f → IsTranspose T l w m z M e b g → Isomorphic N' N
  transposes_isomorphic f g s t =
      let p = presentations_isomorphic s.presentation t.presentation in
      cokernels_isomorphic (transposed T l w m z e) g t.cokernel (transposed T k v h u d) f s.cokernel (transposed T h u m z p.on_second) (transposed T k v l w p.on_first)
      (transposed_iso T h u m z p.on_second p.second_iso) (transposed_iso T k v l w p.on_first p.first_iso)
      (sym (transposed-compose T k v h u m z d p.on_second) ∙ ap (transposed T k v m z) (sym p.square) ∙ transposed-compose T k v l w m z p.on_first e)
