-- Terms with canonical generators are a minimal resolution.
use Rattle.std.proofs.Common.{ℕ, zero, suc, ◌≡◌, List, sym, ◌∙◌, subst}
use Rattle.linear_algebra.specs.Field.{Gf}
use Rattle.linear_algebra.specs.Matrix.{Mat}
use Rattle.linear_algebra.specs.Rank.{IsInSpan}
use Rattle.linear_algebra.proofs.Dimension.{complement}
use Rattle.linear_algebra.proofs.RowForm.{reduced_form}
use Rattle.representations.specs.Quiver.{BoundQuiver}
use Rattle.representations.specs.Rep.{Rep, IsMod}
use Rattle.representations.specs.Hom.{Hom}
use Rattle.representations.specs.Kernel.{kernel}
use Rattle.projectives.specs.Words.{Words, IsWordBasis}
use Rattle.projectives.specs.ReducedSubmodule.{reduced_kernel}
use Rattle.projectives.specs.CanonicalCover.{projectives_at, IsCanonicalCover}
use Rattle.projectives.specs.Resolutions.{IsCanonicalResolution, covered}
use Rattle.projectives.proofs.ReducedSubmodules.{canonical_of_reduced}
use Rattle.projectives.proofs.Resolutions.{canonical_minimal}
use Rattle.module_types.specs.declared.TermRows.{TermRows}
use Rattle.claim_conditions.specs.Terms.{vertices_at, printed_matrix}
use Rattle.claim_conditions.specs.KernelParts.{kernel_rows, IsClosed, kernel_part}
use Rattle.claim_conditions.specs.ResolutionConditions.{OfCovered, AreCanonicalIn, IsChosen}
use Rattle.claim_conditions.specs.Resolutions.{AreResolution}
use Rattle.claim_laws.proofs.TermMaps.{map_of, map_of-at, map_of-value, read_sequence}

module _ {q : Gf} (A : BoundQuiver) (W : Words q A.quiver) (B : IsWordBasis A W) where
  -- a cover of the kernel by its rows is one of the kernel of the theory
  covers_kernel : {Y Z : Rep q A.quiver} (d : Hom Y Z) (f : (w : ℕ) → Mat q (Y.dim w) (Z.dim w)) → ((w : ℕ) → d.at w ≡ f w) → (closed : IsClosed Y f) (vs : List ℕ) (g : Hom (projectives_at W vs) Y)
      → IsCanonicalCover A W B (kernel_part Y f closed) vs g → IsCanonicalCover A W B (reduced_kernel d) vs g
  unfolding kernel
  covers_kernel {Y} {Z} d f e closed vs g c = canonical_of_reduced A W B {X = Y} vs g (kernel d) (kernel_part Y f closed) (λ w. (reduced_form (complement (f w)).kernel).pivot) (λ w. (reduced_form (complement (f w)).kernel).reduced)
      (λ w. subst (λ (m : Mat q (Y.dim w) (Z.dim w)). IsInSpan (kernel_rows Y f w) (complement m).kernel) (sym (e w)) (reduced_form (complement (f w)).kernel).spans)
      (λ w. subst (λ (m : Mat q (Y.dim w) (Z.dim w)). IsInSpan (complement m).kernel (kernel_rows Y f w)) (sym (e w)) (reduced_form (complement (f w)).kernel).spanned)
      c

  module _ (X : Rep q A.quiver) (M : IsMod A X) (terms : List TermRows) where
    chosen_covers : (k : ℕ) → OfCovered W X terms k (AreCanonicalIn W X terms k) → IsCanonicalCover A W B (covered W X (read_sequence A W B X M terms) k) (vertices_at terms k) (map_of A W B X M terms k)
    chosen_covers zero c = record { vertices = c.0; generators = λ j h. map_of-value A W B X M terms zero j h ∙ c.1 j h }
    chosen_covers (suc k) c = covers_kernel (map_of A W B X M terms k) (printed_matrix W X terms k) (λ w. map_of-at A W B X M terms k w) c.0 (vertices_at terms (suc k)) (map_of A W B X M terms (suc k))
        (record { vertices = c.1.0; generators = λ j h. map_of-value A W B X M terms (suc k) j h ∙ c.1.1 j h })

    pub canonical_of_choice : (n : ℕ) → IsChosen W X terms n → IsCanonicalResolution A W B X (read_sequence A W B X M terms) n
    canonical_of_choice n c = λ k h. chosen_covers k (c k h)

    pub resolution_of_choice : (n : ℕ) → IsChosen W X terms n → AreResolution A W B X terms n
    resolution_of_choice n c = record {
      differential = map_of A W B X M terms;
      printed = λ k j h l. map_of-value A W B X M terms k j l;
      minimal = canonical_minimal A W B X M (read_sequence A W B X M terms) n (canonical_of_choice n c);
    }
