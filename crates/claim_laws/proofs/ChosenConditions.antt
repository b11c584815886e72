-- Terms with canonical generators meet the other conditions as well.
use Rattle.std.proofs.Common.{ℕ, zero, suc, ◌+◌, ◌<◌, ◌≤◌, ◌≡◌, List, length, get_or, sym, ap, ap₂, ◌∙◌, subst}
use mathlib.Core.Path.{fun_ext}
use mathlib.Core.HLevel.{is_prop→PathP}
use Rattle.linear_algebra.specs.Field.{Gf}
use Rattle.linear_algebra.specs.Matrix.{Mat, ◌·◌}
use Rattle.linear_algebra.specs.Parts.{unit}
use Rattle.linear_algebra.specs.Rank.{IsInSpan, HasRightInverse}
use Rattle.linear_algebra.proofs.PartsLaws.{unit_mul}
use Rattle.linear_algebra.proofs.Solving.{right_inverse_cancels, surjective_left_inverse}
use Rattle.linear_algebra.proofs.Ranks.{rank_left_inverse}
use Rattle.linear_algebra.specs.Ranks.{rank}
use Rattle.linear_algebra.proofs.Dimension.{complement}
use Rattle.linear_algebra.proofs.RowForm.{reduced_form, reduced_independent}
use Rattle.representations.specs.Quiver.{Quiver, BoundQuiver}
use Rattle.representations.specs.Rep.{Rep, IsMod}
use Rattle.representations.specs.Hom.{Hom, Mat-set, zero_hom}
use Rattle.representations.specs.Sum.{zero_rep}
use Rattle.representations.specs.Submodule.{Submodule, sub_rep, inclusion}
use Rattle.representations.specs.Kernel.{kernel}
use Rattle.representations.proofs.Submodules.{inclusion_mono}
use Rattle.representations.proofs.Kernels.{complex_zero, IsExact-zero, exact_size}
use Rattle.projectives.specs.Words.{Words, IsWordBasis}
use Rattle.projectives.specs.ReducedSubmodule.{whole, reduced, reduced_kernel}
use Rattle.projectives.specs.Canonical.{canonical_columns}
use Rattle.projectives.specs.CanonicalCover.{vertex_in, projectives_at}
use Rattle.projectives.specs.Resolutions.{IsMinimalResolution}
use Rattle.projectives.proofs.KernelCovers.{independent_of_kernel_minimal}
use Rattle.projectives.proofs.Resolutions.{canonical_minimal}
use Rattle.module_types.specs.declared.TermRows.{TermRows}
use Rattle.claim_conditions.specs.Terms.{vertices_at, goes_to, printed_row, printed_matrix}
use Rattle.claim_conditions.specs.KernelParts.{kernel_rows, IsClosed, kernel_part}
use Rattle.claim_conditions.specs.ResolutionConditions.{OfCovered, AreIndependentIn, AreCanonicalIn, IsComplex, IsOntoByRanks, IsExactByRanks, IsMinimal, IsChosen}
use Rattle.claim_laws.proofs.TermMaps.{map_of, map_of-at, map_of-value, read_sequence}
use Rattle.claim_laws.proofs.ChosenTerms.{canonical_of_choice}
use Rattle.claim_laws.proofs.TermsByRanks.{kernel_part_exact, whole_exact, epi_exact}

-- No arrow leads out of the kernel of a homomorphism.
pub closed_of_hom : {q : Gf} {Q : Quiver} {Y Z : Rep q Q} (d : Hom Y Z) (f : (w : ℕ) → Mat q (Y.dim w) (Z.dim w)) → ((w : ℕ) → d.at w ≡ f w) → IsClosed Y f
unfolding kernel reduced
closed_of_hom {Y = Y} d f e = subst (λ g. IsClosed Y g) (fun_ext e) (reduced_kernel d).stable

-- That no arrow leads out is shown in one way at most.
span_once : {q : Gf} {m n k : ℕ} (f : Mat q m n) → HasRightInverse f → (y : Mat q k n) (s t : IsInSpan f y) → s ≡ t
span_once {q} {m} {n} {k} f r y s t = λ i. record {
  by = same i;
  is = is_prop→PathP (λ i. same i · f ≡ y) (λ i. hlevel (Mat-set)) s.is t.is i;
}
  where
    same : s.by ≡ t.by
    same = right_inverse_cancels f r s.by t.by (s.is ∙ sym t.is)

pub closed_once : {q : Gf} {Q : Quiver} (X : Rep q Q) {n : ℕ → ℕ} (f : (w : ℕ) → Mat q (X.dim w) (n w)) (s t : IsClosed X f) → s ≡ t
closed_once {Q = Q} X f s t = fun_ext (λ a.
    span_once (kernel_rows X f (Q.target a)) (reduced_independent (kernel_rows X f (Q.target a)) (reduced_form (complement (f (Q.target a))).kernel).pivot (reduced_form (complement (f (Q.target a))).kernel).reduced)
    (kernel_rows X f (Q.source a) · X.mat a) (s a) (t a))

module _ {q : Gf} (A : BoundQuiver) (W : Words q A.quiver) (B : IsWordBasis A W) (X : Rep q A.quiver) (M : IsMod A X) (terms : List TermRows) where
  pub kernels_closed : (k : ℕ) → IsClosed (projectives_at W (vertices_at terms k)) (printed_matrix W X terms k)
  kernels_closed k = closed_of_hom (map_of A W B X M terms k) (printed_matrix W X terms k) (map_of-at A W B X M terms k)

  module _ (n : ℕ) (c : IsChosen W X terms n) where
    minimal_is : IsMinimalResolution W X (read_sequence A W B X M terms) n
    minimal_is = canonical_minimal A W B X M (read_sequence A W B X M terms) n (canonical_of_choice A W B X M terms n c)

    pub complex_of_choice : IsComplex W X terms n
    complex_of_choice k w h l =
        ap₂ (λ a b. a · b) (sym (map_of-at A W B X M terms (suc k) w)) (sym (map_of-at A W B X M terms k w))
        ∙ complex_zero (map_of A W B X M terms (suc k)) (map_of A W B X M terms k) (IsExact-zero _ _ (minimal_is.exact k h)) w

    pub onto_of_choice : IsOntoByRanks W X terms
    onto_of_choice w l = ap rank (sym (map_of-at A W B X M terms zero w)) ∙ rank_left_inverse ((map_of A W B X M terms zero).at w) (surjective_left_inverse ((map_of A W B X M terms zero).at w) (minimal_is.onto w))

    pub exact_of_choice : IsExactByRanks W X terms n
    exact_of_choice k w h l =
        ap₂ (λ a b. rank a + rank b) (sym (map_of-at A W B X M terms (suc k) w)) (sym (map_of-at A W B X M terms k w))
        ∙ exact_size (map_of A W B X M terms (suc k)) (map_of A W B X M terms k) (minimal_is.exact k h) w

    chosen_rows : (k : ℕ) (U : Submodule (goes_to W X terms k)) → AreCanonicalIn W X terms k U → (j : ℕ) → j < length (vertices_at terms k)
        → unit q (U.size (vertex_in (vertices_at terms k) j)) (get_or (canonical_columns (sub_rep U)) j zero) · U.basis (vertex_in (vertices_at terms k) j) ≡ printed_row W X terms k j
    chosen_rows k U d j h = unit_mul (get_or (canonical_columns (sub_rep U)) j zero) (U.basis (vertex_in (vertices_at terms k) j)) ∙ sym (d.1 j h)

    chosen_independent : (k : ℕ) → k ≤ n → OfCovered W X terms k (AreCanonicalIn W X terms k) → OfCovered W X terms k (AreIndependentIn W X terms k)
    chosen_independent zero l d = (
      (λ j. unit q (X.dim (vertex_in (vertices_at terms zero) j)) (get_or (canonical_columns (sub_rep (whole X))) j zero)),
      chosen_rows zero (whole X) d,
      independent_of_kernel_minimal A W B (length (vertices_at terms zero)) (vertex_in (vertices_at terms zero)) (inclusion (whole X)) (inclusion_mono (whole X))
          (zero_hom X (zero_rep q A.quiver)) (whole_exact X) (map_of A W B X M terms zero) (epi_exact (map_of A W B X M terms zero) minimal_is.onto)
          (λ j. unit q (X.dim (vertex_in (vertices_at terms zero) j)) (get_or (canonical_columns (sub_rep (whole X))) j zero))
          (λ j h. chosen_rows zero (whole X) d j h ∙ sym (map_of-value A W B X M terms zero j h)) (minimal_is.minimal zero l),
    )
    chosen_independent (suc k) l d =
        let U = kernel_part (projectives_at W (vertices_at terms k)) (printed_matrix W X terms k) d.0 in (
          d.0,
          (
            (λ j. unit q (U.size (vertex_in (vertices_at terms (suc k)) j)) (get_or (canonical_columns (sub_rep U)) j zero)),
            chosen_rows (suc k) U d.1,
            independent_of_kernel_minimal A W B (length (vertices_at terms (suc k))) (vertex_in (vertices_at terms (suc k))) (inclusion U) (inclusion_mono U)
                (map_of A W B X M terms k) (kernel_part_exact (map_of A W B X M terms k) (printed_matrix W X terms k) (λ w. map_of-at A W B X M terms k w) d.0)
                (map_of A W B X M terms (suc k)) (minimal_is.exact k l)
                (λ j. unit q (U.size (vertex_in (vertices_at terms (suc k)) j)) (get_or (canonical_columns (sub_rep U)) j zero))
                (λ j h. chosen_rows (suc k) U d.1 j h ∙ sym (map_of-value A W B X M terms (suc k) j h)) (minimal_is.minimal (suc k) l),
          ),
        )

    pub minimal_of_choice : IsMinimal W X terms n
    minimal_of_choice k l = chosen_independent k l (c k l)
