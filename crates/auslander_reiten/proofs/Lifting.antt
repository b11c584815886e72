-- Lifting along the right end: the criterion by the functional, and that each homomorphism lifts or is a split epimorphism.
use Rattle.std.proofs.Common.{ℕ, ◌≡◌, ◌⊎◌, inl, inr, sym, ap, ap₂, ◌∙◌}
use Rattle.linear_algebra.specs.Field.{Gf}
use Rattle.linear_algebra.specs.Matrix.{Row, zeros, ◌⊞◌, ◌·◌}
use Rattle.linear_algebra.specs.Rank.{IsInSpan}
use Rattle.linear_algebra.proofs.MatrixLaws.{mul_assoc_mat, mul_add_mat, zeros_mul, add_zeros}
use Rattle.linear_algebra.proofs.Solving.{zeros_not_one, injective_right_inverse, right_inverse_cancels}
use Rattle.representations.specs.Quiver.{BoundQuiver}
use Rattle.representations.specs.Rep.{Rep, IsMod}
use Rattle.representations.specs.Hom.{Hom, ◌≫◌, ◌⊕◌, identity, zero_hom, negative_hom}
use Rattle.representations.specs.Module.{IsMono, IsEpi, IsExact, IsIso, IsNilpotent, IsSplitEpi}
use Rattle.representations.specs.Factoring.{FactorsBefore}
use Rattle.representations.specs.Sum.{into_first, into_second, onto_first, onto_second, from_sum, into_sum}
use Rattle.representations.proofs.Homs.{compose_assoc, compose_identity, compose_zero, zero_compose, compose_sum, compose_negative, sum_negative, compose-at, sum-at, same-at}
use Rattle.representations.proofs.Kernels.{IsExact-zero, through_kernel}
use Rattle.representations.proofs.Sums.{first_first, first_second, from_sum_by_parts, into_sum_by_parts, into_sum_unique, into_sum_first, into_sum_second}
use Rattle.projectives.specs.Words.{projective}
use Rattle.projectives.specs.Projective.{generator}
use Rattle.projectives.specs.Yoneda.{yoneda}
use Rattle.projectives.specs.Families.{projectives}
use Rattle.projectives.specs.TwoSided.{TwoSided}
use Rattle.projectives.specs.Injective.{injectives}
use Rattle.projectives.specs.Transposed.{nakayama}
use Rattle.projectives.specs.Pairing.{pairing}
use Rattle.projectives.proofs.Yoneda.{generator-yoneda, projective_lifts}
use Rattle.projectives.proofs.Families.{projectives_mod}
use Rattle.projectives.proofs.Pairing.{pairing-natural}
use Rattle.local_modules.proofs.LocalRings.{never_both}
use Rattle.auslander_reiten.specs.AlmostSplit.{Lifts, IsShortExact}
use Rattle.auslander_reiten.specs.SequenceData.{LocalPresentation, EndFunctional, SequenceData, IsDetected}
use Rattle.auslander_reiten.proofs.Chains.{zero_on_rows, equal_of_difference}
use Rattle.auslander_reiten.proofs.Presentations.{presentation_zero, through_cover, cover_splits}
use Rattle.auslander_reiten.proofs.Criterion.{ComesThrough, IsSeen, through_vanishes, through_or_seen}

module _ {q : Gf} {A : BoundQuiver} (T : TwoSided q A) {L E M : Rep q A.quiver} (D : LocalPresentation T M) (F : EndFunctional T D) (f : Hom L E) (g : Hom E M) (S : SequenceData T D F f g) where
  abbrev νP : Rep q A.quiver
  νP = injectives T D.k D.v

  abbrev νP' : Rep q A.quiver
  νP' = injectives T D.h D.u

  abbrev νd : Hom νP νP'
  νd = nakayama T D.k D.v D.h D.u D.d

  -- the part of E in νP
  abbrev pub part : Hom E νP
  part = S.j ≫ onto_first νP M

  -- The square commutes.
  pub square : part ≫ νd ≡ g ≫ F.t
  square = equal_of_difference (part ≫ νd) (g ≫ F.t) (
      ap₂ (λ a b. a ⊕ b) (compose_assoc S.j (onto_first νP M) νd)
      (ap (λ z. negative_hom (z ≫ F.t)) S.second ∙ ap negative_hom (compose_assoc S.j (onto_second νP M) F.t)
      ∙ sym (compose_negative S.j (onto_second νP M ≫ F.t)) ∙ ap (λ z. S.j ≫ z) (sym (compose_negative (onto_second νP M) F.t)))
      ∙ sym (compose_sum S.j (onto_first νP M ≫ νd) (onto_second νP M ≫ negative_hom F.t))
      ∙ ap (λ z. S.j ≫ z) (sym (from_sum_by_parts νd (negative_hom F.t)))
      ∙ IsExact-zero S.j (from_sum νd (negative_hom F.t)) S.middle.exact)

  -- E is the pullback.
  pub into_middle : {X : Rep q A.quiver} (y : Hom X νP) (h : Hom X M) → y ≫ νd ≡ h ≫ F.t → FactorsBefore S.j (into_sum y h)
  into_middle {X} y h e = through_kernel S.j (from_sum νd (negative_hom F.t)) S.middle.mono S.middle.exact (into_sum y h) (
      ap (λ z. into_sum y h ≫ z) (from_sum_by_parts νd (negative_hom F.t))
      ∙ compose_sum (into_sum y h) (onto_first νP M ≫ νd) (onto_second νP M ≫ negative_hom F.t)
      ∙ ap₂ (λ a b. a ⊕ b)
      (sym (compose_assoc (into_sum y h) (onto_first νP M) νd) ∙ ap (λ z. z ≫ νd) (into_sum_first y h) ∙ e)
      (sym (compose_assoc (into_sum y h) (onto_second νP M) (negative_hom F.t)) ∙ ap (λ z. z ≫ negative_hom F.t) (into_sum_second y h) ∙ compose_negative h F.t)
      ∙ sum_negative (h ≫ F.t))

  -- h lifts exactly where h and then t comes from νP.
  lift_of : {X : Rep q A.quiver} (h : Hom X M) → ComesThrough T D.k D.v D.h D.u D.d (h ≫ F.t) → Lifts g h
  lift_of h c = record {
    lift = (into_middle c.by h c.is).factor;
    is = ap (λ z. (into_middle c.by h c.is).factor ≫ z) S.second ∙ sym (compose_assoc (into_middle c.by h c.is).factor S.j (onto_second νP M))
        ∙ ap (λ z. z ≫ onto_second νP M) (into_middle c.by h c.is).is ∙ into_sum_second c.by h;
  }

  through_of : {X : Rep q A.quiver} (h : Hom X M) → Lifts g h → ComesThrough T D.k D.v D.h D.u D.d (h ≫ F.t)
  through_of h l = record {
    by = l.lift ≫ part;
    is = compose_assoc l.lift part νd ∙ ap (λ z. l.lift ≫ z) square ∙ sym (compose_assoc l.lift g F.t) ∙ ap (λ z. z ≫ F.t) l.is;
  }

  -- The criterion: where h lifts, the functional is zero on c and then any homomorphism and then h; and where it does not, it is detected.
  pub lift_vanishes : {X : Rep q A.quiver} → IsMod A X → (h : Hom X M) → Lifts g h → (x : Hom M X) → pairing T D.h D.u (D.c ≫ (x ≫ h)) F.t ≡ zeros q 1 1
  lift_vanishes {X} N h l x =
      ap (λ z. pairing T D.h D.u z F.t) (sym (compose_assoc D.c x h)) ∙ pairing-natural T D.h D.u X M (D.c ≫ x) h F.t
      ∙ through_vanishes T D.k D.v D.h D.u D.d X N (h ≫ F.t) (through_of h l) (D.c ≫ x)
      (sym (compose_assoc D.d D.c x) ∙ ap (λ z. z ≫ x) (presentation_zero D.d D.c D.presentation) ∙ zero_compose (projectives T.words D.k D.v) x)

  detected : {X : Rep q A.quiver} (h : Hom X M) → IsSeen T D.k D.v D.h D.u D.d (h ≫ F.t) → IsDetected T D F h
  detected {X} h s =
      let x = through_cover D.d D.c D.presentation s.by s.killed in
      record {
        by = x.factor;
        sees = ap (λ z. pairing T D.h D.u z F.t) (sym (compose_assoc D.c x.factor h)) ∙ pairing-natural T D.h D.u X M (D.c ≫ x.factor) h F.t
            ∙ ap (λ z. pairing T D.h D.u z (h ≫ F.t)) x.is ∙ s.sees;
      }

  pub lifts_or_detected : {X : Rep q A.quiver} → IsMod A X → (h : Hom X M) → Lifts g h ⊎ IsDetected T D F h
  lifts_or_detected {X} N h = elim (through_or_seen T D.k D.v D.h D.u D.d X N (h ≫ F.t)) [ inl c ↦ inl (lift_of h c) | inr s ↦ inr (detected h s) ]

  -- Each homomorphism to M lifts, or is a split epimorphism.
  split_of : {X : Rep q A.quiver} (h : Hom X M) (w : IsDetected T D F h) → IsIso (w.by ≫ h) ⊎ IsNilpotent (w.by ≫ h) → IsSplitEpi h
  split_of h w (inl i) = record { section = i.inverse ≫ w.by; is = compose_assoc i.inverse w.by h ∙ i.left }
  split_of h w (inr n) = absurd (zeros_not_one q (sym (F.vanishes (w.by ≫ h) (never_both D.local (w.by ≫ h) n)) ∙ w.sees))

  pub lifts_or_splits : {X : Rep q A.quiver} → IsMod A X → (h : Hom X M) → Lifts g h ⊎ IsSplitEpi h
  lifts_or_splits N h = elim (lifts_or_detected N h) [ inl l ↦ inl l | inr w ↦ inr (split_of h w (D.local.decides (w.by ≫ h))) ]

  -- g is no split epimorphism.
  pub right_not_split : IsSplitEpi g → ⊥
  right_not_split s = F.sees (
      ap (λ z. pairing T D.h D.u (D.c ≫ z) F.t) (sym (compose_identity F.seen))
      ∙ lift_vanishes D.is_module (identity M) (record { lift = s.section; is = s.is }) F.seen)

  -- The sequence is exact.
  pub left_is : f ≫ part ≡ S.i
  left_is =
      sym (compose_assoc f S.j (onto_first νP M)) ∙ ap (λ z. z ≫ onto_first νP M) S.first ∙ compose_assoc S.i (into_first νP M) (onto_first νP M)
      ∙ ap (λ z. S.i ≫ z) (first_first νP M) ∙ compose_identity S.i

  pub left_mono : IsMono f
  left_mono w x e = S.left.kernel.mono w x (
      ap (λ z. x · z) (sym (same-at left_is w) ∙ compose-at f part w) ∙ sym (mul_assoc_mat x (f.at w) (part.at w)) ∙ ap (λ z. z · part.at w) e ∙ zeros_mul (part.at w))

  pub left_right : f ≫ g ≡ zero_hom L M
  left_right =
      ap (λ z. f ≫ z) S.second ∙ sym (compose_assoc f S.j (onto_second νP M)) ∙ ap (λ z. z ≫ onto_second νP M) S.first
      ∙ compose_assoc S.i (into_first νP M) (onto_second νP M) ∙ ap (λ z. S.i ≫ z) (first_second νP M) ∙ compose_zero S.i M

  by_parts : S.j ≡ part ≫ into_first νP M ⊕ g ≫ into_second νP M
  by_parts =
      sym (into_sum_unique νP M S.j) ∙ into_sum_by_parts part (S.j ≫ onto_second νP M)
      ∙ ap (λ z. part ≫ into_first νP M ⊕ z ≫ into_second νP M) (sym S.second)

  rows_by_parts : (w : ℕ) (y : Row q (E.dim w)) → y · g.at w ≡ zeros q 1 (M.dim w) → y · S.j.at w ≡ y · part.at w · (into_first νP M).at w
  rows_by_parts w y e =
      ap (λ z. y · z) (same-at by_parts w ∙ sum-at (part ≫ into_first νP M) (g ≫ into_second νP M) w ∙ ap₂ (λ a b. a ⊞ b) (compose-at part (into_first νP M) w) (compose-at g (into_second νP M) w))
      ∙ mul_add_mat y (part.at w · (into_first νP M).at w) (g.at w · (into_second νP M).at w)
      ∙ ap₂ (λ a b. a ⊞ b) (sym (mul_assoc_mat y (part.at w) ((into_first νP M).at w)))
      (sym (mul_assoc_mat y (g.at w) ((into_second νP M).at w)) ∙ ap (λ z. z · (into_second νP M).at w) e ∙ zeros_mul ((into_second νP M).at w))
      ∙ add_zeros (y · part.at w · (into_first νP M).at w)

  reached : (w : ℕ) (y : Row q (E.dim w)) → y · g.at w ≡ zeros q 1 (M.dim w) → IsInSpan (S.i.at w) (y · part.at w) → IsInSpan (f.at w) y
  reached w y e n = record {
    by = n.by;
    is = right_inverse_cancels (S.j.at w) (injective_right_inverse (S.j.at w) (S.middle.mono w)) (n.by · f.at w) y (
        mul_assoc_mat n.by (f.at w) (S.j.at w) ∙ ap (λ z. n.by · z) (sym (compose-at f S.j w) ∙ same-at S.first w ∙ compose-at S.i (into_first νP M) w)
        ∙ sym (mul_assoc_mat n.by (S.i.at w) ((into_first νP M).at w)) ∙ ap (λ z. z · (into_first νP M).at w) n.is ∙ sym (rows_by_parts w y e));
  }

  part_killed : (w : ℕ) (y : Row q (E.dim w)) → y · g.at w ≡ zeros q 1 (M.dim w) → y · part.at w · νd.at w ≡ zeros q 1 (νP'.dim w)
  part_killed w y e =
      mul_assoc_mat y (part.at w) (νd.at w) ∙ ap (λ z. y · z) (sym (compose-at part νd w) ∙ same-at square w ∙ compose-at g F.t w)
      ∙ sym (mul_assoc_mat y (g.at w) (F.t.at w)) ∙ ap (λ z. z · F.t.at w) e ∙ zeros_mul (F.t.at w)

  pub middle_exact : IsExact f g
  middle_exact = record {
    complex = λ w x. zero_on_rows f g left_right w x;
    exact = λ w y e. reached w y e (S.left.kernel.exact.exact w (y · part.at w) (part_killed w y e));
  }

  -- M is no summand of a projective module, so g is surjective.
  not_split_over : (w : ℕ) (y : Hom (projective T.words w) M) → IsSplitEpi y → ⊥
  not_split_over w y s =
      let x = projective_lifts A T.words T.basis (projectives T.words D.h D.u) M (projectives_mod A T.words T.basis D.h D.u) D.is_module w D.c D.presentation.onto y in
      D.not_projective (cover_splits D.d D.c D.presentation (s.section ≫ x.0)
      (compose_assoc s.section x.0 D.c ∙ ap (λ z. s.section ≫ z) x.1 ∙ s.is))

  pub right_onto : IsEpi g
  right_onto w y = elim (lifts_or_splits (T.basis.modules w) (yoneda A T.words T.basis M D.is_module w y)) [
    | inl l ↦ record {
      by = generator A T.words T.basis w · l.lift.at w;
      is = mul_assoc_mat (generator A T.words T.basis w) (l.lift.at w) (g.at w) ∙ ap (λ z. generator A T.words T.basis w · z) (sym (compose-at l.lift g w) ∙ same-at l.is w)
          ∙ generator-yoneda A T.words T.basis M D.is_module w y;
    }
    | inr s ↦ absurd (not_split_over w (yoneda A T.words T.basis M D.is_module w y) s)
  ]

  pub sequence_exact : IsShortExact f g
  sequence_exact = record { mono = left_mono; exact = middle_exact; onto = right_onto }
