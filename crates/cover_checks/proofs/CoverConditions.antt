-- The conditions `minimal` and `choice` on a term, in coordinates.
use Rattle.std.proofs.Common.{ℕ, zero, suc, ◌<◌, ◌≡◌, List, refl, inl, inr, arith}
use Rattle.std.proofs.lemmas.Bool.{cases_lt}
use Rattle.linear_algebra.specs.Field.{Gf}
use Rattle.linear_algebra.specs.Matrix.{Mat, Mat-eq_below, zeros, one}
use Rattle.linear_algebra.specs.Rank.{IsInSpan}
use Rattle.linear_algebra.proofs.MatrixLaws.{mul_one_mat}
use Rattle.representations.specs.Quiver.{Quiver}
use Rattle.representations.specs.Rep.{Rep}
use Rattle.projectives.specs.Words.{Words}
use Rattle.projectives.specs.ReducedSubmodule.{whole}
use Rattle.module_types.specs.declared.TermRows.{TermRows}
use Rattle.module_types.specs.TermMatrices.{count, vertex}
use Rattle.claim_conditions.specs.KernelParts.{IsClosed, kernel_part}
use Rattle.claim_conditions.specs.Terms.{term_at, sum_at, printed_row, printed_matrix}
use Rattle.claim_conditions.specs.ResolutionConditions.{OfCovered, AreIndependentIn}
use Rattle.resolution_checks.proofs.KernelBases.{closed_by_arrows}
use Rattle.cover_checks.specs.Covers.{covered_pivot, covered_reduced, StaysAlong, StaysAt, IsMinimalAt}
use Rattle.cover_checks.proofs.CoordinateReps.{independent_to, at_pivots, independent_from, lies_from}

module _ {q : Gf} {Q : Quiver} (W : Words q Q) (X : Rep q Q) (terms : List TermRows) where
  in_unit : {n k : ℕ} (y : Mat q k n) → IsInSpan (one q n) y
  in_unit y = record { by = y; is = mul_one_mat y }

  pub stays_first : (a : ℕ) → StaysAlong W X terms zero a
  stays_first a = record { stays = in_unit _ }

  -- a condition on what is covered, by a submodule with the bases
  pub minimal_to : (k w : ℕ) → w < Q.vertices → OfCovered W X terms k (AreIndependentIn W X terms k) → IsMinimalAt W X terms k w
  minimal_to zero w l c = record {
    stays = record { each = λ a b e. stays_first a };
    lie = λ j b e. record { lies = in_unit _ };
    independent = record { none = independent_to (whole X) (covered_pivot W X terms zero) (covered_reduced W X terms zero) (count (term_at terms zero)) (vertex (term_at terms zero)) (printed_row W X terms zero) c.0 c.1 c.2 w l };
  }
  minimal_to (suc k) w l c = record {
    stays = record { each = λ a b e. record { stays = c.0 a } };
    lie = λ j b e. record { lies = record { by = c.1.0 j; is = c.1.1 j b } };
    independent = record {
      none = independent_to (kernel_part (sum_at W X terms k) (printed_matrix W X terms k) c.0) (covered_pivot W X terms (suc k)) (covered_reduced W X terms (suc k))
          (count (term_at terms (suc k))) (vertex (term_at terms (suc k))) (printed_row W X terms (suc k)) c.1.0 c.1.1 c.1.2 w l;
    };
  }

  no_columns : {m k n : ℕ} (f : Mat q m n) (y : Mat q k n) → n ≡ 0 → IsInSpan f y
  no_columns {m} {k} f y e = record { by = zeros q k m; is = Mat-eq_below _ _ (λ i j a b. absurd (omega arith)) }

  -- arrows lead to vertices, or nowhere
  pub all_stay : (k : ℕ) → ((w : ℕ) → w < Q.vertices → StaysAt W X terms (suc k) w) → IsClosed (sum_at W X terms k) (printed_matrix W X terms k)
  all_stay k h = closed_by_arrows (sum_at W X terms k) (printed_matrix W X terms k) (λ a l. elim (cases_lt (Q.target a) Q.vertices) [
    | inl b ↦ ((h (Q.target a) b).each a l refl).stays
    | inr b ↦ no_columns _ _ ((sum_at W X terms k).past (Q.target a) b)
  ])

  pub minimal_from : (k : ℕ) → ((j : ℕ) → j < count (term_at terms k) → vertex (term_at terms k) j < Q.vertices) → ((w : ℕ) → w < Q.vertices → IsMinimalAt W X terms k w) → OfCovered W X terms k (AreIndependentIn W X terms k)
  minimal_from zero declared h = (
    at_pivots (whole X) (covered_pivot W X terms zero) (covered_reduced W X terms zero) (count (term_at terms zero)) (vertex (term_at terms zero)) (printed_row W X terms zero),
    lies_from (whole X) (covered_pivot W X terms zero) (covered_reduced W X terms zero) (count (term_at terms zero)) (vertex (term_at terms zero)) (printed_row W X terms zero) (λ j l. in_unit _),
    independent_from (whole X) (covered_pivot W X terms zero) (covered_reduced W X terms zero) (count (term_at terms zero)) (vertex (term_at terms zero)) (printed_row W X terms zero)
        (λ w l c r j b e. (h w l).independent.none c r j b e),
  )
  minimal_from (suc k) declared h =
      let closed = all_stay k (λ w l. (h w l).stays) in
      let U = kernel_part (sum_at W X terms k) (printed_matrix W X terms k) closed in (
        closed,
        (
          at_pivots U (covered_pivot W X terms (suc k)) (covered_reduced W X terms (suc k)) (count (term_at terms (suc k))) (vertex (term_at terms (suc k))) (printed_row W X terms (suc k)),
          lies_from U (covered_pivot W X terms (suc k)) (covered_reduced W X terms (suc k)) (count (term_at terms (suc k))) (vertex (term_at terms (suc k))) (printed_row W X terms (suc k))
              (λ j l. ((h (vertex (term_at terms (suc k)) j) (declared j l)).lie j l refl).lies),
          independent_from U (covered_pivot W X terms (suc k)) (covered_reduced W X terms (suc k)) (count (term_at terms (suc k))) (vertex (term_at terms (suc k))) (printed_row W X terms (suc k))
              (λ w l c r j b e. (h w l).independent.none c r j b e),
        ),
      )
