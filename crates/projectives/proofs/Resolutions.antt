-- Resolutions with canonical generators: each is minimal, each module has one of any length, and only one.
use Rattle.std.proofs.Common.{ℕ, zero, suc, ◌≤◌, ◌<◌, ◌≡◌, List, length, sym, ap, ◌∙◌, subst, arith}
use Rattle.linear_algebra.specs.Field.{Gf}
use Rattle.linear_algebra.specs.Matrix.{◌·◌}
use Rattle.linear_algebra.specs.Rank.{IsInSpan}
use Rattle.linear_algebra.specs.RowForm.{IsRowReduced}
use Rattle.linear_algebra.proofs.MatrixLaws.{mul_one_mat}
use Rattle.linear_algebra.proofs.Solving.{in_span_trans, in_span_mul}
use Rattle.linear_algebra.proofs.RowForm.{reduced_form}
use Rattle.linear_algebra.proofs.RowFormUnique.{row_form_unique}
use Rattle.representations.specs.Quiver.{Quiver, BoundQuiver}
use Rattle.representations.specs.Rep.{Rep, IsMod}
use Rattle.representations.specs.Hom.{Hom}
use Rattle.representations.specs.Module.{IsExact}
use Rattle.representations.specs.Submodule.{Submodule, sub_rep, inclusion}
use Rattle.representations.specs.Kernel.{kernel}
use Rattle.representations.proofs.Kernels.{kernel_exact}
use Rattle.projectives.specs.Words.{Words, IsWordBasis}
use Rattle.projectives.specs.ReducedSubmodule.{whole, reduced, reduced_kernel}
use Rattle.projectives.specs.CanonicalCover.{vertex_in, projectives_at}
use Rattle.projectives.specs.Resolutions.{target, ProjectiveSequence, IsMinimalResolution, covered, IsCanonicalResolution, Stage, stage}
use Rattle.projectives.proofs.Families.{projectives_mod}
use Rattle.projectives.proofs.CanonicalPlaces.{canonical_free}
use Rattle.projectives.proofs.CanonicalCovers.{CoversSubmodule, cover_of, cover_of_canonical, canonical_covers, canonical_stage, canonical_once}

module _ {q : Gf} {Q : Quiver} {X : Rep q Q} (U : Submodule X) where
  -- The reduced basis spans the same, and is the only such.
  pub reduced_spans : (v : ℕ) → IsInSpan ((reduced U).basis v) (U.basis v)
  unfolding reduced
  reduced_spans v = (reduced_form (U.basis v)).spans

  pub reduced_spanned : (v : ℕ) → IsInSpan (U.basis v) ((reduced U).basis v)
  unfolding reduced
  reduced_spanned v = (reduced_form (U.basis v)).spanned

  pub reduced_once : (V : Submodule X) (pivot : ℕ → ℕ → ℕ) → ((v : ℕ) → IsRowReduced (V.basis v) (pivot v)) → ((v : ℕ) → IsInSpan (V.basis v) (U.basis v)) → ((v : ℕ) → IsInSpan (U.basis v) (V.basis v))
      → (v : ℕ) → (V.size v ≡ (reduced U).size v) × ((i j : ℕ) → (V.basis v).at i j ≡ ((reduced U).basis v).at i j)
  unfolding reduced
  reduced_once V pivot r s t v = row_form_unique (V.basis v) (reduced_form (U.basis v)).rows (pivot v) (reduced_form (U.basis v)).pivot (r v) (reduced_form (U.basis v)).reduced
      (in_span_trans (reduced_form (U.basis v)).rows (U.basis v) (V.basis v) (reduced_form (U.basis v)).spans (t v))
      (in_span_trans (V.basis v) (U.basis v) (reduced_form (U.basis v)).rows (s v) (reduced_form (U.basis v)).spanned)

pub reduced_kernel_exact : {q : Gf} {Q : Quiver} {X Y : Rep q Q} (f : Hom X Y) → IsExact (inclusion (reduced_kernel f)) f
reduced_kernel_exact {q} {Q} {X} {Y} f = record {
  complex = λ v x.
      let s = in_span_trans ((kernel f).basis v) ((reduced_kernel f).basis v) (x · (reduced_kernel f).basis v) (reduced_spanned (kernel f) v) (in_span_mul ((reduced_kernel f).basis v) x) in
      ap (λ z. z · f.at v) (sym s.is) ∙ (kernel_exact f).complex v s.by;
  exact = λ v y e. in_span_trans ((reduced_kernel f).basis v) ((kernel f).basis v) y (reduced_spans (kernel f) v) ((kernel_exact f).exact v y e);
}

module _ {q : Gf} (A : BoundQuiver) (W : Words q A.quiver) (B : IsWordBasis A W) where
  pub projectives_at_mod : (vs : List ℕ) → IsMod A (projectives_at W vs)
  projectives_at_mod vs = projectives_mod A W B _ (vertex_in vs)

  -- The step: what covers the kernel of d is exact before d.
  pub covers_exact : (X Y : Rep q A.quiver) (d : Hom X Y) (us : List ℕ) (f : Hom (projectives_at W us) X) → CoversSubmodule A W (reduced_kernel d) us f → IsExact f d
  covers_exact X Y d us f c = record {
    complex = λ w x. let s = c.within w x in ap (λ z. z · d.at w) (sym s.is) ∙ (reduced_kernel_exact d).complex w s.by;
    exact = λ w y e. c.reaches w y ((reduced_kernel_exact d).exact w y e);
  }

  module _ (M : Rep q A.quiver) (L : IsMod A M) where
    target_mod : (R : ProjectiveSequence W M) (n : ℕ) → IsMod A (target W M R.term n)
    target_mod R zero = L
    target_mod R (suc n) = projectives_at_mod (R.term n)

    -- A resolution with canonical generators is minimal.
    pub canonical_minimal : (R : ProjectiveSequence W M) (k : ℕ) → IsCanonicalResolution A W B M R k → IsMinimalResolution W M R k
    canonical_minimal R k c = record {
      declared = λ n h. subst (λ vs. (j : ℕ) → j < length vs → vertex_in vs j < A.quiver.vertices) (sym (c n h).vertices)
          (canonical_free (sub_rep (covered W M R n))).at_vertex;
      onto = λ w y. (covers 0 (omega arith)).reaches w y (record { by = y; is = mul_one_mat y });
      exact = λ n h. covers_exact (projectives_at W (R.term n)) (target W M R.term n) (R.differential n) (R.term (suc n)) (R.differential (suc n)) (covers (suc n) h);
      minimal = λ n h. (covers n h).minimal;
    }
      where
        covers : (n : ℕ) → n ≤ k → CoversSubmodule A W (covered W M R n) (R.term n) (R.differential n)
        covers n h = canonical_covers A W B (target W M R.term n) (target_mod R n) (covered W M R n) (R.term n) (R.differential n) (c n h)

    -- The iteration of the step.
    unfoldable pub next_stage : Stage W → Stage W
    next_stage s = canonical_stage A W B (projectives_at W s.vertices) (projectives_at_mod s.vertices) (reduced_kernel s.map)

    unfoldable pub canonical_stages : ℕ → Stage W
    canonical_stages zero = canonical_stage A W B M L (whole M)
    canonical_stages (suc n) = next_stage (canonical_stages n)

    canonical_map : (n : ℕ) → Hom (projectives_at W (canonical_stages n).vertices) (target W M (λ n. (canonical_stages n).vertices) n)
    unfolding canonical_stages next_stage
    canonical_map zero = cover_of A W B M L (whole M)
    canonical_map (suc n) = cover_of A W B (projectives_at W (canonical_stages n).vertices) (projectives_at_mod (canonical_stages n).vertices) (reduced_kernel (canonical_stages n).map)

    pub canonical_resolution : ProjectiveSequence W M
    canonical_resolution = record { term = λ n. (canonical_stages n).vertices; differential = canonical_map }

    pub canonical_resolution_canonical : (k : ℕ) → IsCanonicalResolution A W B M canonical_resolution k
    unfolding canonical_resolution canonical_map canonical_stages next_stage
    canonical_resolution_canonical k zero h = cover_of_canonical A W B M L (whole M)
    canonical_resolution_canonical k (suc zero) h = cover_of_canonical A W B (projectives_at W (canonical_stages 0).vertices) (projectives_at_mod (canonical_stages 0).vertices) (reduced_kernel (canonical_stages 0).map)
    canonical_resolution_canonical k (suc (suc n)) h = cover_of_canonical A W B (projectives_at W (canonical_stages (suc n)).vertices) (projectives_at_mod (canonical_stages (suc n)).vertices) (reduced_kernel (canonical_stages (suc n)).map)

    -- A resolution with canonical generators is that of the iteration, place by place.
    pub stage_is : (R : ProjectiveSequence W M) (k : ℕ) → IsCanonicalResolution A W B M R k → (n : ℕ) → n ≤ k → stage W M R n ≡ canonical_stages n
    unfolding canonical_stages next_stage
    stage_is R k c zero h = canonical_once A W B M L (whole M) (R.term 0) (R.differential 0) (c 0 h)
    stage_is R k c (suc n) h =
        canonical_once A W B (projectives_at W (R.term n)) (projectives_at_mod (R.term n)) (reduced_kernel (R.differential n)) (R.term (suc n)) (R.differential (suc n)) (c (suc n) h)
        ∙ ap next_stage (stage_is R k c n (omega arith))

    pub resolutions_equal : (R S : ProjectiveSequence W M) (k : ℕ) → IsCanonicalResolution A W B M R k → IsCanonicalResolution A W B M S k → (n : ℕ) → n ≤ k → stage W M R n ≡ stage W M S n
    resolutions_equal R S k c d n h = stage_is R k c n h ∙ sym (stage_is S k d n h)
