-- The condition `choice` on a term, in coordinates.
use Rattle.std.proofs.Common.{ℕ, zero, suc, ◌<◌, List, get_or, sym, ap, ◌∙◌}
use Rattle.linear_algebra.specs.Field.{Gf}
use Rattle.linear_algebra.specs.Parts.{row}
use Rattle.representations.specs.Quiver.{Quiver}
use Rattle.representations.specs.Rep.{Rep}
use Rattle.projectives.specs.Words.{Words}
use Rattle.projectives.specs.ReducedSubmodule.{whole}
use Rattle.module_types.specs.declared.TermRows.{TermRows}
use Rattle.module_types.specs.TermMatrices.{vertex}
use Rattle.claim_conditions.specs.KernelParts.{kernel_part}
use Rattle.claim_conditions.specs.Terms.{term_at, sum_at, printed_matrix}
use Rattle.claim_conditions.specs.ResolutionConditions.{OfCovered, AreCanonicalIn}
use Rattle.cover_checks.specs.Covers.{covered_rows, covered_pivot, covered_reduced, StaysAt, IsChosenIn}
use Rattle.cover_checks.proofs.CoordinateReps.{canonical_vertices_are, canonical_columns_are}
use Rattle.cover_checks.proofs.CoverConditions.{stays_first, all_stay}

module _ {q : Gf} {Q : Quiver} (W : Words q Q) (X : Rep q Q) (terms : List TermRows) where
  pub chosen_stay : (k w : ℕ) → OfCovered W X terms k (AreCanonicalIn W X terms k) → StaysAt W X terms k w
  chosen_stay zero w c = record { each = λ a b e. stays_first W X terms a }
  chosen_stay (suc k) w c = record { each = λ a b e. record { stays = c.0 a } }

  pub chosen_to : (k : ℕ) → OfCovered W X terms k (AreCanonicalIn W X terms k) → IsChosenIn W X terms k
  chosen_to zero c = record {
    vertices_are = c.0 ∙ canonical_vertices_are (whole X) (covered_pivot W X terms zero) (covered_reduced W X terms zero);
    rows_are = λ j l. c.1 j l ∙ ap (λ cs. row (get_or cs j zero) (covered_rows W X terms zero (vertex (term_at terms zero) j))) (canonical_columns_are (whole X) (covered_pivot W X terms zero) (covered_reduced W X terms zero));
  }
  chosen_to (suc k) c =
      let U = kernel_part (sum_at W X terms k) (printed_matrix W X terms k) c.0 in
      record {
        vertices_are = c.1.0 ∙ canonical_vertices_are U (covered_pivot W X terms (suc k)) (covered_reduced W X terms (suc k));
        rows_are = λ j l. c.1.1 j l ∙ ap (λ cs. row (get_or cs j zero) (covered_rows W X terms (suc k) (vertex (term_at terms (suc k)) j))) (canonical_columns_are U (covered_pivot W X terms (suc k)) (covered_reduced W X terms (suc k)));
      }

  pub chosen_from : (k : ℕ) → ((w : ℕ) → w < Q.vertices → StaysAt W X terms k w) → IsChosenIn W X terms k → OfCovered W X terms k (AreCanonicalIn W X terms k)
  chosen_from zero h c = (
    c.vertices_are ∙ sym (canonical_vertices_are (whole X) (covered_pivot W X terms zero) (covered_reduced W X terms zero)),
    λ j l. c.rows_are j l ∙ ap (λ cs. row (get_or cs j zero) (covered_rows W X terms zero (vertex (term_at terms zero) j))) (sym (canonical_columns_are (whole X) (covered_pivot W X terms zero) (covered_reduced W X terms zero))),
  )
  chosen_from (suc k) h c =
      let closed = all_stay W X terms k h in
      let U = kernel_part (sum_at W X terms k) (printed_matrix W X terms k) closed in (
        closed,
        (
          c.vertices_are ∙ sym (canonical_vertices_are U (covered_pivot W X terms (suc k)) (covered_reduced W X terms (suc k))),
          λ j l. c.rows_are j l ∙ ap (λ cs. row (get_or cs j zero) (covered_rows W X terms (suc k) (vertex (term_at terms (suc k)) j))) (sym (canonical_columns_are U (covered_pivot W X terms (suc k)) (covered_reduced W X terms (suc k)))),
        ),
      )
