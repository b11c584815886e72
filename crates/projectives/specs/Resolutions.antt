-- Minimal projective resolutions, and those with canonical generators. (Assem, Simson, Skowroński, volume 1, chapter I, 5, and appendix A, 4.)
use Rattle.std.specs.Prelude.{ℕ, zero, suc, ◌<◌, ◌≤◌, List, length}
use Rattle.linear_algebra.specs.Field.{Gf}
use Rattle.representations.specs.Quiver.{Quiver, BoundQuiver}
use Rattle.representations.specs.Rep.{Rep}
use Rattle.representations.specs.Hom.{Hom}
use Rattle.representations.specs.Module.{IsEpi, IsExact}
use Rattle.representations.specs.Submodule.{Submodule}
use Rattle.projectives.specs.Words.{Words, IsWordBasis}
use Rattle.projectives.specs.Covers.{KernelInRadical}
use Rattle.projectives.specs.ReducedSubmodule.{whole, reduced_kernel}
use Rattle.projectives.specs.CanonicalCover.{vertex_in, projectives_at, IsCanonicalCover}

-- Sums P 0, P 1, .. of projective modules, by the lists of their vertices, and homomorphisms from P 0 to M, and from P (n + 1) to P n.
abbrev pub target : {q : Gf} {Q : Quiver} → Words q Q → Rep q Q → (ℕ → List ℕ) → ℕ → Rep q Q
target W M term zero = M
target W M term (suc n) = projectives_at W (term n)

pub record ProjectiveSequence {q : Gf} {Q : Quiver} (W : Words q Q) (M : Rep q Q) : Type 0 where
  pub term : ℕ → List ℕ
  pub differential : (n : ℕ) → Hom (projectives_at W (term n)) (target W M term n)

-- A minimal projective resolution of M up to place k (at k = 1 a minimal projective presentation): sums of projective modules at vertices of the
-- quiver, onto M, exact, and each kernel in the radical. What stands at later places is not asked. The sums are projective where the words W are a
-- basis of the algebra (`IsWordBasis`), as everywhere where this is used.
pub record IsMinimalResolution {q : Gf} {Q : Quiver} (W : Words q Q) (M : Rep q Q) (R : ProjectiveSequence W M) (k : ℕ) : Type 0 where
  pub declared : (n : ℕ) → n ≤ k → (j : ℕ) → j < length (R.term n) → vertex_in (R.term n) j < Q.vertices
  pub onto : IsEpi (R.differential zero)
  pub exact : (n : ℕ) → n < k → IsExact (R.differential (suc n)) (R.differential n)
  pub minimal : (n : ℕ) → n ≤ k → KernelInRadical (R.differential n)

-- What place n has to cover: M, and then the kernel of the homomorphism before, by its inclusion in reduced row form.
abbrev pub covered : {q : Gf} {Q : Quiver} (W : Words q Q) (M : Rep q Q) (R : ProjectiveSequence W M) (n : ℕ) → Submodule (target W M R.term n)
covered W M R zero = whole M
covered W M R (suc n) = reduced_kernel (R.differential n)

-- Up to place k the generators are the canonical ones.
abbrev pub IsCanonicalResolution : {q : Gf} (A : BoundQuiver) (W : Words q A.quiver) → IsWordBasis A W → (M : Rep q A.quiver) → ProjectiveSequence W M → ℕ → Type 0
IsCanonicalResolution A W B M R k = (n : ℕ) → n ≤ k → IsCanonicalCover A W B (covered W M R n) (R.term n) (R.differential n)

-- One place of a resolution: the vertices of its term, and its homomorphism with the representation that that goes to.
pub record Stage {q : Gf} {Q : Quiver} (W : Words q Q) : Type 0 where
  pub into : Rep q Q
  pub vertices : List ℕ
  pub map : Hom (projectives_at W vertices) into

abbrev pub stage : {q : Gf} {Q : Quiver} (W : Words q Q) (M : Rep q Q) → ProjectiveSequence W M → ℕ → Stage W
stage W M R n = record { into = target W M R.term n; vertices = R.term n; map = R.differential n }
