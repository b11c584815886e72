-- The sequence of the data is almost split; the data exist for each local module that is not projective.
use Rattle.std.proofs.Common.{ℕ, ◌+◌, ◌≡◌, ◌⊎◌, inl, inr, sym, ap, ◌∙◌, arith, refl, length}
use Rattle.linear_algebra.specs.Field.{Gf}
use Rattle.linear_algebra.proofs.Subspaces.{through_zero}
use Rattle.linear_algebra.proofs.Solving.{surjective_left_inverse}
use Rattle.linear_algebra.proofs.Ranks.{rank_left_inverse}
use Rattle.linear_algebra.proofs.RowForm.{reduced_form}
use Rattle.representations.specs.Quiver.{Quiver, BoundQuiver}
use Rattle.representations.specs.Rep.{Rep, IsMod}
use Rattle.representations.specs.Hom.{Hom, ◌≫◌, negative_hom}
use Rattle.representations.specs.Module.{IsMono, IsSplitMono, IsSplitEpi, IsZero}
use Rattle.representations.specs.Factoring.{FactorsBefore}
use Rattle.representations.specs.Submodule.{Submodule, sub_rep, inclusion}
use Rattle.representations.specs.Sum.{sum_rep, into_first, onto_second, from_sum}
use Rattle.representations.specs.KernelOf.{IsKernel, IsReduced}
use Rattle.representations.proofs.Homs.{compose_assoc}
use Rattle.representations.proofs.Endomorphisms.{iso_of_both}
use Rattle.representations.proofs.Paths.{IsMod-mono}
use Rattle.representations.proofs.Submodules.{inclusion_mono}
use Rattle.representations.proofs.Kernels.{IsExact-zero, through_kernel, kernel_size}
use Rattle.representations.proofs.Sums.{IsMod-sum, first_from_sum}
use Rattle.projectives.specs.Families.{projectives}
use Rattle.projectives.specs.TwoSided.{TwoSided}
use Rattle.projectives.specs.Injective.{injectives}
use Rattle.projectives.specs.Transposed.{nakayama}
use Rattle.projectives.specs.ReducedSubmodule.{reduced, reduced_kernel}
use Rattle.projectives.specs.CanonicalCover.{vertex_in}
use Rattle.projectives.specs.Resolutions.{ProjectiveSequence}
use Rattle.projectives.proofs.Families.{projectives_mod, projectives_lift}
use Rattle.projectives.proofs.Nakayama.{injectives_mod}
use Rattle.projectives.proofs.Resolutions.{reduced_kernel_exact, canonical_minimal, canonical_resolution, canonical_resolution_canonical}
use Rattle.local_modules.specs.Local.{IsLocal}
use Rattle.auslander_reiten.specs.Presentation.{IsMinimalPresentation, IsProjective}
use Rattle.auslander_reiten.specs.AlmostSplit.{Lifts, Extends, IsShortExact, IsAlmostSplit, AlmostSplitSequence}
use Rattle.auslander_reiten.specs.SequenceData.{LocalPresentation, EndFunctional, SequenceData, CanonicalSequence}
use Rattle.auslander_reiten.proofs.Chains.{nonzero_or_zero}
use Rattle.auslander_reiten.proofs.Presentations.{presentation_of_resolution, cover_splits}
use Rattle.auslander_reiten.proofs.Lifting.{lifts_or_splits, right_not_split, sequence_exact}
use Rattle.auslander_reiten.proofs.Companions.{translate_mod, translate_local}
use Rattle.auslander_reiten.proofs.LeftProperty.{extends_or_splits}
use Rattle.auslander_reiten.proofs.RadicalFunctional.{end_functional}

module _ {q : Gf} {A : BoundQuiver} (T : TwoSided q A) {L E M : Rep q A.quiver} (D : LocalPresentation T M) (F : EndFunctional T D) (f : Hom L E) (g : Hom E M) (S : SequenceData T D F f g) where
  pub left_mod : IsMod A L
  left_mod = translate_mod T D S.i S.left

  pub middle_mod : IsMod A E
  middle_mod = IsMod-mono A S.j S.middle.mono (IsMod-sum A (injectives T D.k D.v) M (injectives_mod T D.k D.v) D.is_module)

  pub left_local : IsLocal L
  left_local = translate_local T D S.i S.left

  -- Each homomorphism out of L extends along f, or is a split monomorphism.
  pub left_extends_or_splits : (Y : Rep q A.quiver) → IsMod A Y → (h : Hom L Y) → Extends f h ⊎ IsSplitMono h
  left_extends_or_splits = extends_or_splits A f g (sequence_exact T D F f g S) (right_not_split T D F f g S) left_local middle_mod (λ X N h. lifts_or_splits T D F f g S N h)

  lift_where : (X : Rep q A.quiver) → IsMod A X → (h : Hom X M) → (IsSplitEpi h → ⊥) → Lifts g h
  lift_where X N h n = elim (lifts_or_splits T D F f g S N h) [ inl l ↦ l | inr s ↦ absurd (n s) ]

  extend_where : (Y : Rep q A.quiver) → IsMod A Y → (h : Hom L Y) → (IsSplitMono h → ⊥) → Extends f h
  extend_where Y N h n = elim (left_extends_or_splits Y N h) [ inl l ↦ l | inr s ↦ absurd (n s) ]

  pub almost_split : IsAlmostSplit A f g
  almost_split = record {
    left_module = left_mod;
    middle_module = middle_mod;
    right_module = D.is_module;
    short_exact = sequence_exact T D F f g S;
    not_split = right_not_split T D F f g S;
    left_local = left_local;
    right_local = D.local;
    lifts = lift_where;
    extends = extend_where;
  }

-- Sizes in a short exact sequence.
pub middle_size : {q : Gf} {Q : Quiver} {L E M : Rep q Q} (f : Hom L E) (g : Hom E M) → IsShortExact f g → (w : ℕ) → L.dim w + M.dim w ≡ E.dim w
middle_size f g e w =
    let sizes = kernel_size f g e.mono e.exact w in
    let whole = rank_left_inverse (g.at w) (surjective_left_inverse (g.at w) (e.onto w)) in
    omega arith

-- The kernel in reduced row form.
pub kernel_is_reduced : {q : Gf} {Q : Quiver} {X Y : Rep q Q} (f : Hom X Y) → IsReduced (inclusion (reduced_kernel f))
unfolding reduced
kernel_is_reduced f w = (_, (reduced_form _).reduced)

pub kernel_is_kernel : {q : Gf} {Q : Quiver} {X Y : Rep q Q} (f : Hom X Y) → IsKernel (inclusion (reduced_kernel f)) f
kernel_is_kernel f = record { mono = inclusion_mono (reduced_kernel f); exact = reduced_kernel_exact f }

-- The data exist, with both embeddings in reduced row form.
module _ {q : Gf} {A : BoundQuiver} (T : TwoSided q A) {M : Rep q A.quiver} (D : LocalPresentation T M) (F : EndFunctional T D) where
  abbrev νP : Rep q A.quiver
  νP = injectives T D.k D.v

  abbrev νd : Hom νP (injectives T D.h D.u)
  νd = nakayama T D.k D.v D.h D.u D.d

  abbrev square : Hom (sum_rep νP M) (injectives T D.h D.u)
  square = from_sum νd (negative_hom F.t)

  abbrev left_part : Submodule νP
  left_part = reduced_kernel νd

  abbrev middle_part : Submodule (sum_rep νP M)
  middle_part = reduced_kernel square

  into_middle : FactorsBefore (inclusion middle_part) (inclusion left_part ≫ into_first νP M)
  into_middle = through_kernel (inclusion middle_part) square (inclusion_mono middle_part) (reduced_kernel_exact square) (inclusion left_part ≫ into_first νP M) (
      compose_assoc (inclusion left_part) (into_first νP M) square ∙ ap (λ z. inclusion left_part ≫ z) (first_from_sum νd (negative_hom F.t))
      ∙ IsExact-zero (inclusion left_part) νd (reduced_kernel_exact νd))

  pub canonical_sequence : CanonicalSequence T D F
  canonical_sequence = record {
    left_end = sub_rep left_part;
    middle_term = sub_rep middle_part;
    f = into_middle.factor;
    g = inclusion middle_part ≫ onto_second νP M;
    sequence = record {
      i = inclusion left_part;
      left = record { presentation = D.presentation; kernel = kernel_is_kernel νd };
      j = inclusion middle_part;
      middle = kernel_is_kernel square;
      first = into_middle.is;
      second = refl;
    };
    left_reduced = kernel_is_reduced νd;
    middle_reduced = kernel_is_reduced square;
  }

-- A local module that is no summand of a sum of projective modules has a presentation with P not zero.
module _ {q : Gf} {A : BoundQuiver} (T : TwoSided q A) (M : Rep q A.quiver) (N : IsMod A M) where
  abbrev pub resolution : ProjectiveSequence T.words M
  resolution = canonical_resolution A T.words T.basis M N

  pub minimal_presentation : IsMinimalPresentation T (length (resolution.term 1)) (vertex_in (resolution.term 1)) (length (resolution.term 0)) (vertex_in (resolution.term 0)) (resolution.differential 1) (resolution.differential 0)
  minimal_presentation = presentation_of_resolution T M resolution (canonical_minimal A T.words T.basis M N resolution 1 (canonical_resolution_canonical A T.words T.basis M N 1))

  cover_mono : IsZero (projectives T.words (length (resolution.term 1)) (vertex_in (resolution.term 1))) → IsMono (resolution.differential 0)
  cover_mono z w x e = let s = minimal_presentation.exact.exact w x e in sym s.is ∙ through_zero s.by ((resolution.differential 1).at w) (z w)

  -- M is projective, or P is not zero.
  abbrev first_term : Rep q A.quiver
  first_term = projectives T.words (length (resolution.term 1)) (vertex_in (resolution.term 1))

  projective_of_zero : IsZero first_term → IsProjective T.words M
  projective_of_zero z =
      let i = iso_of_both (resolution.differential 0) (cover_mono z) minimal_presentation.onto in
      record { k = length (resolution.term 0); v = vertex_in (resolution.term 0); onto = resolution.differential 0; splits = record { section = i.inverse; is = i.left } }

  presented : IsLocal M → (IsZero first_term → ⊥) → LocalPresentation T M
  presented l n = record {
    is_module = N;
    local = l;
    k = length (resolution.term 1);
    v = vertex_in (resolution.term 1);
    h = length (resolution.term 0);
    u = vertex_in (resolution.term 0);
    d = resolution.differential 1;
    c = resolution.differential 0;
    presentation = minimal_presentation;
    not_projective = n;
  }

  pub presented_or_projective : IsLocal M → LocalPresentation T M ⊎ IsProjective T.words M
  presented_or_projective l = elim (nonzero_or_zero first_term) [
    | inl w ↦ inl (presented l (λ z. w.1 (z w.0)))
    | inr z ↦ inr (projective_of_zero z)
  ]

-- What has such a presentation is not projective.
pub presented_not_projective : {q : Gf} {A : BoundQuiver} (T : TwoSided q A) {M : Rep q A.quiver} → LocalPresentation T M → IsProjective T.words M → ⊥
presented_not_projective {A = A} T {M} D p =
    let P' = projectives_mod A T.words T.basis D.h D.u in
    let x = projectives_lift A T.words T.basis p.k p.v (projectives T.words D.h D.u) M P' D.is_module D.c D.presentation.onto p.onto in
    D.not_projective (cover_splits D.d D.c D.presentation (p.splits.section ≫ x.0)
    (compose_assoc p.splits.section x.0 D.c ∙ ap (λ z. p.splits.section ≫ z) x.1 ∙ p.splits.is))

-- So each local module is projective, or the right end of an almost split sequence, and never both.
module _ {q : Gf} {A : BoundQuiver} (T : TwoSided q A) (M : Rep q A.quiver) where
  pub sequence_ending : LocalPresentation T M → AlmostSplitSequence A M
  sequence_ending D =
      let F = end_functional T D in
      let c = canonical_sequence T D F in
      record {
        left_end = c.left_end;
        middle_term = c.middle_term;
        f = c.f;
        g = c.g;
        almost_split = almost_split T D F c.f c.g c.sequence;
      }

  pub ends_or_projective : IsMod A M → IsLocal M → AlmostSplitSequence A M ⊎ IsProjective T.words M
  ends_or_projective N l = elim (presented_or_projective T M N l) [ inl D ↦ inl (sequence_ending D) | inr p ↦ inr p ]

  pub ends_not_projective : AlmostSplitSequence A M → IsProjective T.words M → ⊥
  ends_not_projective s p =
      let x = projectives_lift A T.words T.basis p.k p.v s.middle_term M s.almost_split.middle_module s.almost_split.right_module s.g s.almost_split.short_exact.onto p.onto in
      s.almost_split.not_split (record {
        section = p.splits.section ≫ x.0;
        is = compose_assoc p.splits.section x.0 s.g ∙ ap (λ z. p.splits.section ≫ z) x.1 ∙ p.splits.is;
      })
