-- A submodule by another basis with the same entries: so a canonical cover may be stated with any inclusion in reduced row form.
use Rattle.std.proofs.Common.{ℕ, zero, ◌≡◌, List, get_or, sym, ap, ◌∙◌}
use Rattle.std.proofs.Math.Path.{path_j}
use Rattle.linear_algebra.specs.Field.{Gf}
use Rattle.linear_algebra.specs.Matrix.{Mat, ◌·◌}
use Rattle.linear_algebra.specs.Rank.{IsInSpan}
use Rattle.linear_algebra.specs.RowForm.{IsRowReduced}
use Rattle.linear_algebra.proofs.PartsLaws.{Row-eq, row-at}
use Rattle.linear_algebra.proofs.Solving.{right_inverse_cancels}
use Rattle.linear_algebra.proofs.MatrixPaths.{Mat-path}
use Rattle.representations.specs.Quiver.{Quiver, BoundQuiver}
use Rattle.representations.specs.Rep.{Rep}
use Rattle.representations.specs.Hom.{Hom}
use Rattle.representations.specs.Submodule.{Submodule, sub_rep}
use Rattle.representations.proofs.RepEqual.{Rep-eq}
use Rattle.projectives.specs.Words.{Words, IsWordBasis}
use Rattle.projectives.specs.Canonical.{canonical_vertices, canonical_columns}
use Rattle.projectives.specs.ReducedSubmodule.{reduced}
use Rattle.projectives.specs.CanonicalCover.{vertex_in, projectives_at, IsCanonicalCover}
use Rattle.projectives.proofs.Resolutions.{reduced_once}

-- bases at all vertices
abbrev Bases : {q : Gf} {Q : Quiver} → Rep q Q → Type 0
Bases {q} X = (size : ℕ → ℕ) × ((v : ℕ) → Mat q (size v) (X.dim v))

module _ {q : Gf} {Q : Quiver} {X : Rep q Q} where
  module _ (U V : Submodule X) (e : (v : ℕ) → U.size v ≡ V.size v) (h : (v i j : ℕ) → (U.basis v).at i j ≡ (V.basis v).at i j) where
    bases_equal : (let b : Bases X = (U.size, U.basis) in b) ≡ (V.size, V.basis)
    bases_equal = λ k. (λ v. e v k, λ v. Mat-path (λ k. e v k) (λ k. X.dim v) (U.basis v) (V.basis v) (h v) k)

    matrices_equal : (a i j : ℕ) → (U.stable a).by.at i j ≡ (V.stable a).by.at i j
    matrices_equal = path_j
        (λ (c : Bases X) p. (s : (a : ℕ) → IsInSpan (c.1 (Q.target a)) (c.1 (Q.source a) · X.mat a)) → (a i j : ℕ) → (U.stable a).by.at i j ≡ (s a).by.at i j)
        (λ s a i j. ap (λ (m : Mat q (U.size (Q.source a)) (U.size (Q.target a))). m.at i j)
        (right_inverse_cancels (U.basis (Q.target a)) (U.independent (Q.target a)) (U.stable a).by (s a).by ((U.stable a).is ∙ sym (s a).is)))
        bases_equal V.stable

    pub sub_reps_equal : sub_rep U ≡ sub_rep V
    sub_reps_equal = Rep-eq (sub_rep U) (sub_rep V) e matrices_equal

module _ {q : Gf} (A : BoundQuiver) (W : Words q A.quiver) (B : IsWordBasis A W) {X : Rep q A.quiver} (vs : List ℕ) (f : Hom (projectives_at W vs) X) where
  canonical_same : (U V : Submodule X) → ((v : ℕ) → U.size v ≡ V.size v) → ((v i j : ℕ) → (U.basis v).at i j ≡ (V.basis v).at i j) → IsCanonicalCover A W B U vs f → IsCanonicalCover A W B V vs f
  canonical_same U V e h c = record {
    vertices = c.vertices ∙ ap canonical_vertices (sub_reps_equal U V e h);
    generators = λ j l. c.generators j l ∙ Row-eq _ _ (λ i b.
        row-at (get_or (canonical_columns (sub_rep U)) j zero) (U.basis (vertex_in vs j)) i ∙ h (vertex_in vs j) (get_or (canonical_columns (sub_rep U)) j zero) i
        ∙ ap (λ Y. (V.basis (vertex_in vs j)).at (get_or (canonical_columns Y) j zero) i) (sub_reps_equal U V e h)
        ∙ sym (row-at (get_or (canonical_columns (sub_rep V)) j zero) (V.basis (vertex_in vs j)) i));
  }

  module _ (U V : Submodule X) (pivot : ℕ → ℕ → ℕ) (r : (v : ℕ) → IsRowReduced (V.basis v) (pivot v)) (s : (v : ℕ) → IsInSpan (V.basis v) (U.basis v)) (t : (v : ℕ) → IsInSpan (U.basis v) (V.basis v)) where
    pub canonical_of_reduced : IsCanonicalCover A W B V vs f → IsCanonicalCover A W B (reduced U) vs f
    canonical_of_reduced = canonical_same V (reduced U) (λ v. (reduced_once U V pivot r s t v).0) (λ v. (reduced_once U V pivot r s t v).1)

    pub reduced_of_canonical : IsCanonicalCover A W B (reduced U) vs f → IsCanonicalCover A W B V vs f
    reduced_of_canonical = canonical_same (reduced U) V (λ v. sym (reduced_once U V pivot r s t v).0) (λ v i j. sym ((reduced_once U V pivot r s t v).1 i j))
