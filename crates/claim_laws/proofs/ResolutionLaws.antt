-- The conditions on a resolution suffice, the canonical choice alone gives the others, and a resolution of length 1 is a minimal presentation.
use Rattle.std.proofs.Common.{ℕ, ◌≡◌, ◌<◌, List, sym, ◌∙◌, subst, arith}
use Rattle.linear_algebra.specs.Field.{Gf}
use Rattle.path_algebra.specs.declared.Header.{Header}
use Rattle.representations.specs.Quiver.{BoundQuiver}
use Rattle.representations.specs.Rep.{Rep}
use Rattle.representations.specs.Hom.{Hom}
use Rattle.projectives.specs.TwoSided.{TwoSided}
use Rattle.projectives.proofs.Families.{equal_on_generators, projectives_mod}
use Rattle.auslander_reiten.specs.Presentation.{IsMinimalPresentation}
use Rattle.module_types.specs.declared.Module.{Module}
use Rattle.module_types.specs.declared.TermRows.{TermRows}
use Rattle.module_types.specs.Algebras.{algebra_at, sided_words}
use Rattle.module_types.specs.Readings.{read}
use Rattle.module_types.specs.TermMatrices.{count, vertex, sum_of_term}
use Rattle.module_types.specs.Presentations.{Presentation, differential}
use Rattle.module_types.proofs.Presentations.{differential-value}
use Rattle.claim_conditions.specs.Conditions.{AllHold}
use Rattle.claim_conditions.specs.Modules.{Sides, ModuleHolds}
use Rattle.claim_conditions.specs.Resolutions.{AreResolution, ResolutionHolds}
use Rattle.claim_conditions.specs.ResolutionConditions.{IsChosen, resolution_conditions}
use Rattle.claim_conditions.specs.Translates.{presentation_of, IsCover}
use Rattle.claim_laws.proofs.ChosenTerms.{resolution_of_choice}
use Rattle.claim_laws.proofs.ChosenConditions.{complex_of_choice, onto_of_choice, exact_of_choice, minimal_of_choice}

module _ (h : Header) (T : Sides h) (a : Module) (terms : List TermRows) (n : ℕ) (m : ModuleHolds h a) where
  pub resolution_suffices : AllHold (resolution_conditions h T a terms n) → ResolutionHolds h T a terms n
  resolution_suffices c = resolution_of_choice (algebra_at a.side h) (sided_words a.side T).words (sided_words a.side T).basis (read h a) m terms n c.1.1.1.0

  pub resolution_complete : IsChosen (sided_words a.side T).words (read h a) terms n → AllHold (resolution_conditions h T a terms n)
  resolution_complete c =
      let A = algebra_at a.side h in
      let W = (sided_words a.side T).words in
      let B = (sided_words a.side T).basis in
      let X = read h a in (
        complex_of_choice A W B X m terms n c,
        ((onto_of_choice A W B X m terms n c, exact_of_choice A W B X m terms n c), (minimal_of_choice A W B X m terms n c, (c, tt))),
      )

-- A presentation: its cover, and that it is minimal with the differential that is read from the printed rows.
pub record PresentationHolds {q : Gf} {A : BoundQuiver} (T : TwoSided q A) (M : Rep q A.quiver) (p : Presentation) : Type 0 where
  pub declared : (j : ℕ) → j < count p.syzygy → vertex p.syzygy j < A.quiver.vertices
  pub cover : Hom (sum_of_term T.words p.cover) M
  pub is_cover : IsCover T M p cover
  pub is : IsMinimalPresentation T (count p.syzygy) (vertex p.syzygy) (count p.cover) (vertex p.cover) (differential T p) cover

module _ {q : Gf} {A : BoundQuiver} (T : TwoSided q A) (M : Rep q A.quiver) (terms : List TermRows) (R : AreResolution A T.words T.basis M terms 1) where
  -- the differential of the resolution is the one that is read
  differential_read : R.differential 1 ≡ differential T (presentation_of terms)
  differential_read =
      let p = presentation_of terms in
      equal_on_generators A T.words T.basis (count p.syzygy) (vertex p.syzygy) (sum_of_term T.words p.cover) (projectives_mod A T.words T.basis (count p.cover) (vertex p.cover))
      (R.differential 1) (differential T p) (λ j l. R.printed 1 j (omega arith) l ∙ sym (differential-value T p j l))

  pub presentation_holds : PresentationHolds T M (presentation_of terms)
  presentation_holds =
      let p = presentation_of terms in
      record {
        declared = λ j l. R.minimal.declared 1 (omega arith) j l;
        cover = R.differential 0;
        is_cover = λ j l. R.printed 0 j (omega arith) l;
        is = subst (λ (d : Hom (sum_of_term T.words p.syzygy) (sum_of_term T.words p.cover)).
            IsMinimalPresentation T (count p.syzygy) (vertex p.syzygy) (count p.cover) (vertex p.cover) d (R.differential 0)) differential_read (record {
              onto = R.minimal.onto;
              exact = R.minimal.exact 0 (omega arith);
              minimal_cover = R.minimal.minimal 0 (omega arith);
              minimal = R.minimal.minimal 1 (omega arith);
            });
      }
