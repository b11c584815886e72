-- An almost split sequence is determined by its right end: two of them are isomorphic over it.
use Rattle.std.proofs.Common.{ℕ, ◌≡◌, ◌⊎◌, inl, inr, refl, sym, ap, ◌∙◌}
use Rattle.linear_algebra.specs.Field.{Gf}
use Rattle.linear_algebra.specs.Matrix.{Row, zeros, ◌·◌}
use Rattle.linear_algebra.proofs.MatrixLaws.{mul_assoc_mat, zeros_mul}
use Rattle.linear_algebra.proofs.Inverses.{right_inverse_square}
use Rattle.linear_algebra.proofs.Solving.{injective_right_inverse}
use Rattle.representations.specs.Quiver.{Quiver, BoundQuiver}
use Rattle.representations.specs.Rep.{Rep}
use Rattle.representations.specs.Hom.{Hom, ◌≫◌, identity}
use Rattle.representations.specs.Module.{IsMono, IsIso, IsNilpotent}
use Rattle.representations.specs.Factoring.{FactorsBefore}
use Rattle.representations.proofs.Homs.{compose_assoc, compose_identity, identity_compose, compose-at, same-at}
use Rattle.representations.proofs.Endomorphisms.{iso_by_vertices, iso_mono}
use Rattle.representations.proofs.Factoring.{mono_cancels}
use Rattle.representations.proofs.Kernels.{IsExact-zero, through_kernel}
use Rattle.projectives.proofs.CoverUnique.{iso_of_composites}
use Rattle.auslander_reiten.specs.AlmostSplit.{Lifts, IsShortExact, IsAlmostSplit, SequenceIsomorphism}
use Rattle.auslander_reiten.proofs.LeftProperty.{not_nilpotent}

-- An injective endomorphism is an isomorphism.
pub mono_iso : {q : Gf} {Q : Quiver} {X : Rep q Q} (x : Hom X X) → IsMono x → IsIso x
mono_iso x m = iso_by_vertices x (λ w. right_inverse_square (x.at w) refl (injective_right_inverse (x.at w) (m w)))

module _ {q : Gf} {Q : Quiver} {L E M L' E' : Rep q Q} (f : Hom L E) (g : Hom E M) (s : IsShortExact f g) (f' : Hom L' E') (g' : Hom E' M) (s' : IsShortExact f' g') where
  -- A homomorphism over M comes with one of the left ends.
  pub on_left : (k : Hom E E') → k ≫ g' ≡ g → FactorsBefore f' (f ≫ k)
  on_left k e = through_kernel f' g' s'.mono s'.exact (f ≫ k) (compose_assoc f k g' ∙ ap (λ z. f ≫ z) e ∙ IsExact-zero f g s.exact)

-- An endomorphism over M is an isomorphism.
module _ {q : Gf} (A : BoundQuiver) {L E M : Rep q A.quiver} (f : Hom L E) (g : Hom E M) (S : IsAlmostSplit A f g) (p : Hom E E) (over : p ≫ g ≡ g) where
  restricted : FactorsBefore f (f ≫ p)
  restricted = on_left f g S.short_exact f g S.short_exact p over

  restricted_iso : IsIso restricted.factor ⊎ IsNilpotent restricted.factor → IsIso restricted.factor
  restricted_iso (inl i) = i
  restricted_iso (inr n) = absurd (not_nilpotent A f g S.short_exact S.not_split restricted.factor p restricted.is over n)

  killed : (w : ℕ) (x : Row q (E.dim w)) → x · p.at w ≡ zeros q 1 (E.dim w) → x ≡ zeros q 1 (E.dim w)
  killed w x e =
      let y = S.short_exact.exact.exact w x (ap (λ z. x · z) (sym (same-at over w) ∙ compose-at p g w) ∙ sym (mul_assoc_mat x (p.at w) (g.at w)) ∙ ap (λ z. z · g.at w) e ∙ zeros_mul (g.at w)) in
      let n = restricted.factor in
      let step : y.by · n.at w · f.at w ≡ zeros q 1 (E.dim w) =
      mul_assoc_mat y.by (n.at w) (f.at w) ∙ ap (λ z. y.by · z) (sym (compose-at n f w) ∙ same-at restricted.is w ∙ compose-at f p w)
      ∙ sym (mul_assoc_mat y.by (f.at w) (p.at w)) ∙ ap (λ z. z · p.at w) y.is ∙ e in
      let none = iso_mono n (restricted_iso (S.left_local.decides n)) w y.by (S.short_exact.mono w (y.by · n.at w) step) in
      sym y.is ∙ ap (λ z. z · f.at w) none ∙ zeros_mul (f.at w)

  pub over_iso : IsIso p
  over_iso = mono_iso p killed

module _ {q : Gf} (A : BoundQuiver) {L E M L' E' : Rep q A.quiver} (f : Hom L E) (g : Hom E M) (S : IsAlmostSplit A f g) (f' : Hom L' E') (g' : Hom E' M) (S' : IsAlmostSplit A f' g') where
  forth : Lifts g' g
  forth = S'.lifts E S.middle_module g S.not_split

  back : Lifts g g'
  back = S.lifts E' S'.middle_module g' S'.not_split

  middle_iso : IsIso forth.lift
  middle_iso = iso_of_composites forth.lift back.lift
      (over_iso A f g S (forth.lift ≫ back.lift) (compose_assoc forth.lift back.lift g ∙ ap (λ z. forth.lift ≫ z) back.is ∙ forth.is))
      (over_iso A f' g' S' (back.lift ≫ forth.lift) (compose_assoc back.lift forth.lift g' ∙ ap (λ z. back.lift ≫ z) forth.is ∙ back.is))

  left_forth : FactorsBefore f' (f ≫ forth.lift)
  left_forth = on_left f g S.short_exact f' g' S'.short_exact forth.lift forth.is

  inverse_over : middle_iso.inverse ≫ g ≡ g'
  inverse_over = ap (λ z. middle_iso.inverse ≫ z) (sym forth.is) ∙ sym (compose_assoc middle_iso.inverse forth.lift g') ∙ ap (λ z. z ≫ g') middle_iso.left ∙ identity_compose g'

  left_back : FactorsBefore f (f' ≫ middle_iso.inverse)
  left_back = on_left f' g' S'.short_exact f g S.short_exact middle_iso.inverse inverse_over

  left_iso : IsIso left_forth.factor
  left_iso = record {
    inverse = left_back.factor;
    right = mono_cancels f S.short_exact.mono (left_forth.factor ≫ left_back.factor) (identity L) (
        compose_assoc left_forth.factor left_back.factor f ∙ ap (λ z. left_forth.factor ≫ z) left_back.is ∙ sym (compose_assoc left_forth.factor f' middle_iso.inverse)
        ∙ ap (λ z. z ≫ middle_iso.inverse) left_forth.is ∙ compose_assoc f forth.lift middle_iso.inverse ∙ ap (λ z. f ≫ z) middle_iso.right ∙ compose_identity f ∙ sym (identity_compose f));
    left = mono_cancels f' S'.short_exact.mono (left_back.factor ≫ left_forth.factor) (identity L') (
        compose_assoc left_back.factor left_forth.factor f' ∙ ap (λ z. left_back.factor ≫ z) left_forth.is ∙ sym (compose_assoc left_back.factor f forth.lift)
        ∙ ap (λ z. z ≫ forth.lift) left_back.is ∙ compose_assoc f' middle_iso.inverse forth.lift ∙ ap (λ z. f' ≫ z) middle_iso.left ∙ compose_identity f' ∙ sym (identity_compose f'));
  }

  pub sequences_isomorphic : SequenceIsomorphism f g f' g'
  sequences_isomorphic = record {
    on_left = left_forth.factor;
    on_middle = forth.lift;
    left_iso = left_iso;
    middle_iso = middle_iso;
    square = left_forth.is;
    over = forth.is;
  }
