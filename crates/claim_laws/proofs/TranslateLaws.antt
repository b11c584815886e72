-- The conditions on translates suffice, and what is computed in reduced form meets them.
use Rattle.std.proofs.Common.{List, refl, sym, ap, ◌∙◌}
use Rattle.linear_algebra.specs.Field.{Gf}
use Rattle.fp_linear.specs.Matrix.{PlainMatrix}
use Rattle.path_algebra.specs.declared.Header.{Header}
use Rattle.representations.specs.Quiver.{opposite, BoundQuiver}
use Rattle.representations.specs.Rep.{Rep}
use Rattle.representations.proofs.KernelsBySize.{kernel_by_reduced, cokernel_by_coreduced}
use Rattle.projectives.specs.TwoSided.{TwoSided}
use Rattle.module_types.specs.declared.Module.{Module}
use Rattle.module_types.specs.declared.TermRows.{TermRows}
use Rattle.module_types.specs.Algebras.{sided_words, other_side}
use Rattle.module_types.proofs.Duals.{other_other}
use Rattle.module_types.specs.Readings.{read, read_beside, hom_by}
use Rattle.module_types.specs.Presentations.{Presentation, injective_term, nakayama_of, transposed_of}
use Rattle.claim_conditions.specs.Conditions.{AllHold}
use Rattle.claim_conditions.specs.Modules.{Sides}
use Rattle.claim_conditions.specs.Families.{AreReduced, AreCoReduced}
use Rattle.claim_conditions.specs.Resolutions.{ResolutionHolds}
use Rattle.claim_conditions.specs.Translates.{presentation_of, transposed_term, read_across, IsTranslateOf, IsTransposeOf, TauHolds, TransposeHolds, TauiHolds}
use Rattle.claim_conditions.specs.TranslateConditions.{embedding_of, embedding_conditions, projection_of, projection_conditions, tau_conditions, transpose_conditions, taui_conditions}
use Rattle.claim_laws.proofs.ResolutionLaws.{PresentationHolds, presentation_holds}
use Rattle.claim_laws.proofs.PrintedMaps.{printed_hom, matrices_reduced, matrices_coreduced, exact_zero, exact_kernel_size, exact_cokernel_size}

module _ {q : Gf} {A : BoundQuiver} (T : TwoSided q A) (M : Rep q A.quiver) (p : Presentation) where
  pub translate_by : (N : Rep q A.quiver) (embedding : List PlainMatrix) → PresentationHolds T M p → AllHold (embedding_conditions T p N embedding) → IsTranslateOf T M p N embedding
  translate_by N embedding P c =
      let i = hom_by N (injective_term T p.syzygy) (embedding_of T p N embedding) c.1.0.hom in
      let k = kernel_by_reduced i (nakayama_of T p) c.0 c.1.0.zero c.1.1.0 in
      record {
        cover = P.cover;
        is_cover = P.is_cover;
        inclusion = i;
        matrices = λ w. refl;
        is = record { presentation = P.is; kernel = record { mono = k.mono; exact = k.exact } };
      }

  pub translate_meets : (N : Rep q A.quiver) (embedding : List PlainMatrix) (t : IsTranslateOf T M p N embedding) → AreReduced N (injective_term T p.syzygy) t.inclusion.at
      → AllHold (embedding_conditions T p N embedding)
  translate_meets N embedding t r = (
    matrices_reduced t.inclusion embedding t.matrices r,
    (
      record { hom = printed_hom t.inclusion embedding t.matrices; zero = exact_zero t.inclusion (nakayama_of T p) t.is.kernel.exact _ _ t.matrices (λ w. refl) },
      (exact_kernel_size t.inclusion (nakayama_of T p) t.is.kernel.exact t.is.kernel.mono _ (λ w. refl), tt),
    ),
  )

  pub transpose_by : (N : Rep q (opposite A.quiver)) (projection : List PlainMatrix) → PresentationHolds T M p → AllHold (projection_conditions T p N projection) → IsTransposeOf T M p N projection
  transpose_by N projection P c =
      let r = hom_by (transposed_term T p.syzygy) N (projection_of T p N projection) c.1.0.hom in
      let k = cokernel_by_coreduced (transposed_of T p) r c.0 c.1.0.zero c.1.1.0 in
      record {
        cover = P.cover;
        is_cover = P.is_cover;
        onto = r;
        matrices = λ w. refl;
        is = record { presentation = P.is; cokernel = record { onto = k.onto; exact = k.exact } };
      }

  pub transpose_meets : (N : Rep q (opposite A.quiver)) (projection : List PlainMatrix) (t : IsTransposeOf T M p N projection) → AreCoReduced (transposed_term T p.syzygy) N t.onto.at
      → AllHold (projection_conditions T p N projection)
  transpose_meets N projection t r = (
    matrices_coreduced t.onto projection t.matrices r,
    (
      record { hom = printed_hom t.onto projection t.matrices; zero = exact_zero (transposed_of T p) t.onto t.is.cokernel.exact _ _ (λ w. refl) t.matrices },
      (exact_cokernel_size (transposed_of T p) t.onto t.is.cokernel.exact t.is.cokernel.onto _ (λ w. refl), tt),
    ),
  )

module _ (named : Type 0) (h : Header) (T : Sides h) (n a : Module) (terms : List TermRows) (matrices : List PlainMatrix) where
  pub tau_suffices : ResolutionHolds h T a terms 1 → AllHold (tau_conditions named h T n a terms matrices) → TauHolds h T n a terms matrices
  tau_suffices R c = record {
    declared = λ k j l m. R.minimal.declared k l j m;
    side = c.0.1;
    is = translate_by (sided_words a.side T) (read h a) (presentation_of terms) (read_beside h a n) matrices (presentation_holds (sided_words a.side T) (read h a) terms R) c.1;
  }

  pub tau_complete : named → (k : TauHolds h T n a terms matrices) → AreReduced (read_beside h a n) (injective_term (sided_words a.side T) (presentation_of terms).syzygy) k.is.inclusion.at
      → AllHold (tau_conditions named h T n a terms matrices)
  tau_complete o k r = ((o, k.side), translate_meets (sided_words a.side T) (read h a) (presentation_of terms) (read_beside h a n) matrices k.is r)

  pub transpose_suffices : ResolutionHolds h T a terms 1 → AllHold (transpose_conditions named h T n a terms matrices) → TransposeHolds h T n a terms matrices
  transpose_suffices R c = record {
    declared = λ k j l m. R.minimal.declared k l j m;
    side = c.0.1;
    is = transpose_by (sided_words a.side T) (read h a) (presentation_of terms) (read_across h a n) matrices (presentation_holds (sided_words a.side T) (read h a) terms R) c.1;
  }

  pub transpose_complete : named → (k : TransposeHolds h T n a terms matrices) → AreCoReduced (transposed_term (sided_words a.side T) (presentation_of terms).syzygy) (read_across h a n) k.is.onto.at
      → AllHold (transpose_conditions named h T n a terms matrices)
  transpose_complete o k r = ((o, k.side), transpose_meets (sided_words a.side T) (read h a) (presentation_of terms) (read_across h a n) matrices k.is r)

module _ (named : Type 0) (h : Header) (T : Sides h) (n a b : Module) (terms : List TermRows) (projection : List PlainMatrix) where
  pub taui_suffices : ResolutionHolds h T b terms 1 → AllHold (taui_conditions named h T n a b terms projection) → TauiHolds h T n a b terms projection
  taui_suffices R c = record {
    dual = c.0.1;
    side = c.0.2;
    transpose = record {
      declared = λ k j l m. R.minimal.declared k l j m;
      side = c.0.2 ∙ sym (other_other a.side) ∙ ap other_side (sym c.0.1.side);
      is = transpose_by (sided_words b.side T) (read h b) (presentation_of terms) (read_across h b n) projection (presentation_holds (sided_words b.side T) (read h b) terms R) c.1;
    };
  }

  pub taui_complete : named → (k : TauiHolds h T n a b terms projection) → AreCoReduced (transposed_term (sided_words b.side T) (presentation_of terms).syzygy) (read_across h b n) k.transpose.is.onto.at
      → AllHold (taui_conditions named h T n a b terms projection)
  taui_complete o k r = ((o, k.dual, k.side), transpose_meets (sided_words b.side T) (read h b) (presentation_of terms) (read_across h b n) projection k.transpose.is r)
