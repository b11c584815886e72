-- A local projective module is isomorphic to the projective module at a vertex, and the inclusion of its radical is right almost split.
use mathlib.Core.Path.{fun_ext}
use Rattle.std.proofs.Common.{ℕ, ◌<◌, ◌≤◌, ◌≡◌, inl, inr, sym, ap, ◌∙◌, subst}
use Rattle.std.proofs.lemmas.Bool.{cases_lt}
use Rattle.linear_algebra.specs.Field.{Gf}
use Rattle.linear_algebra.specs.Matrix.{Mat, Row, ◌·◌}
use Rattle.linear_algebra.proofs.Blocks.{no_columns}
use Rattle.linear_algebra.proofs.MatrixLaws.{mul_assoc_mat}
use Rattle.representations.specs.Quiver.{BoundQuiver}
use Rattle.representations.specs.Rep.{Rep, IsMod}
use Rattle.representations.specs.Hom.{Hom, Hom-eq, ◌≫◌, identity, zero_hom, sum_of}
use Rattle.representations.specs.Module.{IsIso, IsSplitEpi}
use Rattle.representations.specs.Submodule.{inclusion}
use Rattle.representations.specs.Radical.{IsInRadical}
use Rattle.representations.specs.RadicalModule.{radical}
use Rattle.representations.proofs.Homs.{compose-at, same-at, compose_assoc, compose_identity, zero_compose, compose_sum_of, sum_of_compose}
use Rattle.representations.proofs.Radical.{radical-hom}
use Rattle.representations.proofs.RadicalModule.{radical_in_basis}
use Rattle.representations.proofs.Submodules.{inclusion_mono, IsMod-sub}
use Rattle.representations.proofs.Factoring.{through_mono}
use Rattle.projectives.specs.Words.{projective}
use Rattle.projectives.specs.Families.{family_in}
use Rattle.projectives.specs.Components.{family_out}
use Rattle.projectives.specs.TwoSided.{TwoSided}
use Rattle.projectives.proofs.Components.{whole}
use Rattle.local_modules.specs.Local.{IsLocal}
use Rattle.local_modules.specs.Isomorphic.{Isomorphic}
use Rattle.local_modules.proofs.LocalRings.{iso_identity, both_iso, zero_no_iso}
use Rattle.local_modules.proofs.Comparing.{iso_among}
use Rattle.auslander_reiten.specs.ClosedList.{IsRightAlmostSplit}
use Rattle.auslander_reiten.specs.Presentation.{IsProjective}
use Rattle.auslander_reiten.proofs.LocalProjectives.{projective_local, into_radical_or_splits, radical_inclusion_not_split}

module _ {q : Gf} {A : BoundQuiver} (T : TwoSided q A) {Y : Rep q A.quiver} (L : IsLocal Y) (p : IsProjective T.words Y) where
  -- the way through the part j
  there : (j : ℕ) → Hom Y (projective T.words (p.v j))
  there j = p.splits.section ≫ family_out p.k (λ j. projective T.words (p.v j)) j

  back : (j : ℕ) → Hom (projective T.words (p.v j)) Y
  back j = family_in p.k (λ j. projective T.words (p.v j)) j ≫ p.onto

  all_ways : sum_of p.k (λ j. there j ≫ back j) ≡ identity Y
  unfolding there back
  all_ways =
      ap (sum_of p.k) (fun_ext (λ j.
      sym (compose_assoc (p.splits.section ≫ family_out p.k P j) (family_in p.k P j) p.onto) ∙ ap (λ z. z ≫ p.onto) (compose_assoc p.splits.section (family_out p.k P j) (family_in p.k P j))))
      ∙ sym (sum_of_compose p.k (λ j. p.splits.section ≫ (family_out p.k P j ≫ family_in p.k P j)) p.onto)
      ∙ ap (λ z. z ≫ p.onto) (sym (compose_sum_of p.k p.splits.section (λ j. family_out p.k P j ≫ family_in p.k P j)) ∙ ap (λ z. p.splits.section ≫ z) (whole p.k P) ∙ compose_identity p.splits.section)
      ∙ p.splits.is
    where
      P : ℕ → Rep q A.quiver
      P j = projective T.words (p.v j)

  through_zero_module : (j : ℕ) → A.quiver.vertices ≤ p.v j → IsIso (there j ≫ back j) → ⊥
  through_zero_module j past i = zero_no_iso L.vertex L.nonzero (subst IsIso (ap (λ z. z ≫ back j) none ∙ zero_compose Y (back j)) i)
    where
      none : there j ≡ zero_hom Y (projective T.words (p.v j))
      none = Hom-eq _ _ (λ w. subst (λ d. (a b : Mat q (Y.dim w) d) → a ≡ b) (sym (T.none (p.v j) w past)) no_columns ((there j).at w) ((zero_hom Y (projective T.words (p.v j))).at w))

  pub at_a_vertex : (v : ℕ) × (v < A.quiver.vertices) × Isomorphic Y (projective T.words v)
  at_a_vertex =
      let (j, l, i) = iso_among L p.k (λ j. there j ≫ back j) (subst IsIso (sym all_ways) (iso_identity Y)) in
      elim (cases_lt (p.v j) A.quiver.vertices) [
        | inl inside ↦ (p.v j, inside, record { forth = there j; iso = (both_iso L (projective_local A T.words T.basis (p.v j) inside) (there j) (back j) i).0 })
        | inr past ↦ absurd (through_zero_module j past i)
      ]

-- ---- the inclusion of the radical

module _ {q : Gf} {A : BoundQuiver} (T : TwoSided q A) {Y : Rep q A.quiver} (M : IsMod A Y) (L : IsLocal Y) (v : ℕ) (inside : v < A.quiver.vertices) (e : Isomorphic Y (projective T.words v)) where
  module _ {X : Rep q A.quiver} (h : Hom X Y) where
    back_again : h ≫ e.forth ≫ e.iso.inverse ≡ h
    back_again = compose_assoc h e.forth e.iso.inverse ∙ ap (λ z. h ≫ z) e.iso.right ∙ compose_identity h

    rows_in_radical : ((w : ℕ) (x : Row q (X.dim w)) → IsInRadical (projective T.words v) w (x · (h ≫ e.forth).at w)) → (w : ℕ) (x : Row q (X.dim w)) → IsInRadical Y w (x · h.at w)
    rows_in_radical r w x = subst (IsInRadical Y w)
        (mul_assoc_mat x ((h ≫ e.forth).at w) (e.iso.inverse.at w) ∙ ap (λ z. x · z) (sym (compose-at (h ≫ e.forth) e.iso.inverse w) ∙ same-at back_again w))
        (radical-hom e.iso.inverse (r w x))

    splits_back : IsSplitEpi (h ≫ e.forth) → IsSplitEpi h
    splits_back s = record {
      section = e.forth ≫ s.section;
      is = sym (compose_identity (e.forth ≫ s.section ≫ h)) ∙ ap (λ z. e.forth ≫ s.section ≫ h ≫ z) (sym e.iso.right) ∙ sym (compose_assoc (e.forth ≫ s.section ≫ h) e.forth e.iso.inverse)
          ∙ ap (λ z. z ≫ e.iso.inverse) (compose_assoc (e.forth ≫ s.section) h e.forth ∙ compose_assoc e.forth s.section (h ≫ e.forth) ∙ ap (λ z. e.forth ≫ z) s.is ∙ compose_identity e.forth)
          ∙ e.iso.right;
    }

  pub radical_right_almost_split_at : IsRightAlmostSplit A (inclusion (radical Y))
  radical_right_almost_split_at = record {
    source_module = IsMod-sub A (radical Y) M;
    target_module = M;
    not_split = radical_inclusion_not_split A M (λ z. L.nonzero (z L.vertex));
    lifts = λ X X_mod h n. elim (into_radical_or_splits A T.words T.basis v inside X_mod (h ≫ e.forth)) [
      | inl r ↦ let k = through_mono (inclusion (radical Y)) h (inclusion_mono (radical Y)) (λ w x. radical_in_basis (rows_in_radical h r w x)) in record { lift = k.factor; is = k.is }
      | inr s ↦ absurd (n (splits_back h s))
    ];
  }

pub radical_right_almost_split : {q : Gf} {A : BoundQuiver} (T : TwoSided q A) {Y : Rep q A.quiver} → IsMod A Y → IsLocal Y → IsProjective T.words Y → IsRightAlmostSplit A (inclusion (radical Y))
radical_right_almost_split T M L p = let (v, inside, e) = at_a_vertex T L p in radical_right_almost_split_at T M L v inside e
