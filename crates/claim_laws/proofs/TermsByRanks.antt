-- Terms that are exact by ranks, with generators that are independent modulo the radical of what they cover, are a minimal resolution.
use Rattle.std.proofs.Common.{ℕ, zero, suc, ◌+◌, ◌<◌, ◌≤◌, ◌≡◌, List, length, inl, inr, refl, sym, ap, ap₂, ◌∙◌, arith}
use Rattle.std.proofs.lemmas.Bool.{cases_lt}
use Rattle.linear_algebra.specs.Field.{Gf}
use Rattle.linear_algebra.specs.Matrix.{Mat, Mat-eq, zeros, ◌·◌}
use Rattle.linear_algebra.proofs.MatrixLaws.{mul_assoc_mat, mul_zeros, mul_one_mat}
use Rattle.linear_algebra.proofs.Blocks.{no_rows}
use Rattle.linear_algebra.proofs.Solving.{in_span_trans}
use Rattle.linear_algebra.proofs.Exactness.{exact_by_ranks, cokernel_by_size}
use Rattle.linear_algebra.specs.Ranks.{rank}
use Rattle.linear_algebra.proofs.Dimension.{complement, kernel_spans}
use Rattle.linear_algebra.proofs.RankExists.{rank_factorisation}
use Rattle.linear_algebra.proofs.RowForm.{reduced_form}
use Rattle.representations.specs.Quiver.{Quiver, BoundQuiver}
use Rattle.representations.specs.Rep.{Rep, IsMod}
use Rattle.representations.specs.Hom.{Hom, zero_hom}
use Rattle.representations.specs.Sum.{zero_rep}
use Rattle.representations.specs.Module.{IsEpi, IsExact}
use Rattle.representations.specs.Submodule.{inclusion}
use Rattle.representations.proofs.Submodules.{inclusion_mono}
use Rattle.projectives.specs.Words.{Words, IsWordBasis}
use Rattle.projectives.specs.Covers.{KernelInRadical}
use Rattle.projectives.specs.ReducedSubmodule.{whole}
use Rattle.projectives.specs.CanonicalCover.{vertex_in, projectives_at}
use Rattle.projectives.proofs.KernelCovers.{kernel_minimal_of_independent}
use Rattle.module_types.specs.declared.TermRows.{TermRows}
use Rattle.claim_conditions.specs.Terms.{vertices_at, printed_matrix}
use Rattle.claim_conditions.specs.KernelParts.{kernel_rows, IsClosed, kernel_part}
use Rattle.claim_conditions.specs.ResolutionConditions.{OfCovered, AreIndependentIn, IsComplex, IsOntoByRanks, IsExactByRanks, IsMinimal}
use Rattle.claim_conditions.specs.Resolutions.{AreResolution}
use Rattle.claim_laws.proofs.TermMaps.{map_of, map_of-at, map_of-value}

no_columns : {q : Gf} {m n : ℕ} (a b : Mat q m n) → n ≡ 0 → a ≡ b
no_columns a b e = Mat-eq a b (λ i j. a.fits.right i j (omega arith) ∙ sym (b.fits.right i j (omega arith)))

module _ {q : Gf} {Q : Quiver} {X Y Z : Rep q Q} (f : Hom X Y) (g : Hom Y Z) where
  exact_of_ranks : ((w : ℕ) → w < Q.vertices → f.at w · g.at w ≡ zeros q (X.dim w) (Z.dim w)) → ((w : ℕ) → w < Q.vertices → rank (f.at w) + rank (g.at w) ≡ Y.dim w) → IsExact f g
  unfolding rank
  exact_of_ranks c r = record {
    complex = λ w x. elim (cases_lt w Q.vertices) [
      | inl h ↦ mul_assoc_mat x (f.at w) (g.at w) ∙ ap (λ z. x · z) (c w h) ∙ mul_zeros x
      | inr h ↦ no_columns _ _ (Z.past w h)
    ];
    exact = λ w y e. elim (cases_lt w Q.vertices) [
      | inl h ↦ exact_by_ranks (f.at w) (g.at w) (rank_factorisation (f.at w)) (rank_factorisation (g.at w)) (c w h) (r w h) y e
      | inr h ↦ record { by = zeros q 1 (X.dim w); is = no_columns _ _ (Y.past w h) }
    ];
  }

epi_of_ranks : {q : Gf} {Q : Quiver} {X Y : Rep q Q} (f : Hom X Y) → ((w : ℕ) → w < Q.vertices → rank (f.at w) ≡ Y.dim w) → IsEpi f
unfolding rank
epi_of_ranks {q} {Q} {X} {Y} f r w y = elim (cases_lt w Q.vertices) [
  | inl h ↦ cokernel_by_size (f.at w) (zeros q (Y.dim w) 0) (rank_factorisation (f.at w)) (record { inverse = zeros q 0 (Y.dim w); is = no_rows _ _ }) (no_columns _ _ refl) (let e = r w h in omega (arith, e)) y (no_columns _ _ refl)
  | inr h ↦ record { by = zeros q 1 (X.dim w); is = no_columns _ _ (Y.past w h) }
]

module _ {q : Gf} {Q : Quiver} {Y Z : Rep q Q} (d : Hom Y Z) (f : (w : ℕ) → Mat q (Y.dim w) (Z.dim w)) (e : (w : ℕ) → d.at w ≡ f w) (closed : IsClosed Y f) where
  pub kernel_part_exact : IsExact (inclusion (kernel_part Y f closed)) d
  kernel_part_exact = record {
    complex = λ w x.
        let s = (reduced_form (complement (f w)).kernel).spanned in
        ap (λ z. x · kernel_rows Y f w · z) (e w) ∙ mul_assoc_mat x (kernel_rows Y f w) (f w)
        ∙ ap (λ z. x · z) (ap (λ z. z · f w) (sym s.is) ∙ mul_assoc_mat s.by (complement (f w)).kernel (f w) ∙ ap (λ z. s.by · z) (complement (f w)).kernel_kills ∙ mul_zeros s.by) ∙ mul_zeros x;
    exact = λ w y z. in_span_trans (kernel_rows Y f w) (complement (f w)).kernel y (reduced_form (complement (f w)).kernel).spans
        (kernel_spans (f w) (complement (f w)) y (ap (λ m. y · m) (sym (e w)) ∙ z));
  }

pub whole_exact : {q : Gf} {Q : Quiver} (X : Rep q Q) → IsExact (inclusion (whole X)) (zero_hom X (zero_rep q Q))
unfolding zero_hom
whole_exact X = record { complex = λ w x. no_columns _ _ refl; exact = λ w y e. record { by = y; is = mul_one_mat y } }

pub epi_exact : {q : Gf} {Q : Quiver} {X Y : Rep q Q} (f : Hom X Y) → IsEpi f → IsExact f (zero_hom Y (zero_rep q Q))
epi_exact f h = record { complex = λ w x. no_columns _ _ refl; exact = λ w y e. h w y }

module _ {q : Gf} (A : BoundQuiver) (W : Words q A.quiver) (B : IsWordBasis A W) (X : Rep q A.quiver) (M : IsMod A X) (terms : List TermRows) (n : ℕ)
    (complex : IsComplex W X terms n) (onto : IsOntoByRanks W X terms) (exact : IsExactByRanks W X terms n) (minimal : IsMinimal W X terms n) where
  maps_onto : IsEpi (map_of A W B X M terms zero)
  maps_onto = epi_of_ranks (map_of A W B X M terms zero) (λ w h. ap rank (map_of-at A W B X M terms zero w) ∙ onto w h)

  maps_exact : (k : ℕ) → k < n → IsExact (map_of A W B X M terms (suc k)) (map_of A W B X M terms k)
  maps_exact k l = exact_of_ranks (map_of A W B X M terms (suc k)) (map_of A W B X M terms k)
      (λ w h. ap₂ (λ a b. a · b) (map_of-at A W B X M terms (suc k) w) (map_of-at A W B X M terms k w) ∙ complex k w l h)
      (λ w h. ap₂ (λ a b. rank a + rank b) (map_of-at A W B X M terms (suc k) w) (map_of-at A W B X M terms k w) ∙ exact k w l h)

  maps_minimal : (k : ℕ) → k ≤ n → OfCovered W X terms k (AreIndependentIn W X terms k) → KernelInRadical (map_of A W B X M terms k)
  maps_minimal zero l c = kernel_minimal_of_independent A W B (length (vertices_at terms zero)) (vertex_in (vertices_at terms zero)) (inclusion (whole X)) (inclusion_mono (whole X))
      (zero_hom X (zero_rep q A.quiver)) (whole_exact X) (map_of A W B X M terms zero) (epi_exact (map_of A W B X M terms zero) maps_onto)
      c.0 (λ j h. c.1 j h ∙ sym (map_of-value A W B X M terms zero j h)) c.2
  maps_minimal (suc k) l c =
      let U = kernel_part (projectives_at W (vertices_at terms k)) (printed_matrix W X terms k) c.0 in
      kernel_minimal_of_independent A W B (length (vertices_at terms (suc k))) (vertex_in (vertices_at terms (suc k))) (inclusion U) (inclusion_mono U)
      (map_of A W B X M terms k) (kernel_part_exact (map_of A W B X M terms k) (printed_matrix W X terms k) (λ w. map_of-at A W B X M terms k w) c.0)
      (map_of A W B X M terms (suc k)) (maps_exact k l)
      c.1.0 (λ j h. c.1.1 j h ∙ sym (map_of-value A W B X M terms (suc k) j h)) c.1.2

  pub resolution_of_ranks : ((k j : ℕ) → k ≤ n → j < length (vertices_at terms k) → vertex_in (vertices_at terms k) j < A.quiver.vertices) → AreResolution A W B X terms n
  resolution_of_ranks declared = record {
    differential = map_of A W B X M terms;
    printed = λ k j h l. map_of-value A W B X M terms k j l;
    minimal = record {
      declared = λ k h j l. declared k j h l;
      onto = maps_onto;
      exact = maps_exact;
      minimal = λ k h. maps_minimal k h (minimal k h);
    };
  }
