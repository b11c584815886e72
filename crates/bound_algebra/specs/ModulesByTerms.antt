-- Modules by the terms of a header. (Assem, Simson, Skowroński, volume 1, chapter III, 1.)
use Rattle.std.specs.Prelude.{ℕ, ◌≡◌, Contains, if◌then◌else◌, nat_lt}
use Rattle.linear_algebra.specs.Field.{mul}
use Rattle.linear_algebra.specs.Matrix.{Mat, zeros}
use Rattle.quiver_paths.specs.declared.Path.{Path}
use Rattle.quiver_paths.specs.Path.{IsPath, path_length}
use Rattle.path_algebra.specs.declared.Relation.{Relation}
use Rattle.path_algebra.specs.declared.Header.{Header}
use Rattle.path_algebra.specs.Elements.{sum_over}
use Rattle.representations.specs.Quiver.{opposite}
use Rattle.representations.specs.Rep.{Rep}
use Rattle.bound_algebra.specs.TypedPaths.{quiver_of}
use Rattle.bound_algebra.specs.PathMatrices.{path_matrix, left_path_matrix}

-- Each path has a matrix with m rows and n columns. That of each written relation, the sum of coefficient times matrix over its terms that are shorter
-- than the bound, is zero at each entry; and so is that of each path of the bound's length.
pub record AreZeroByTerms (h : Header) (m n : ℕ) (matrix : Path → Mat h.field m n) : Type 0 where
  pub relations : (rel : Relation) → Contains h.relations rel → (x y : ℕ)
      → sum_over h.field rel.terms (λ t. if nat_lt (path_length t.path) h.bound then mul h.field t.coef ((matrix t.path).at x y) else 0) ≡ 0
  pub long : (p : Path) → IsPath h.quiver p → path_length p ≡ h.bound → matrix p ≡ zeros h.field m n

-- X is a right module by terms: for all v and w the matrices of the paths from v to w have this property. The same for a left module, where the matrix of
-- such a path goes from w to v.
abbrev pub IsModuleByTerms : (h : Header) → Rep h.field (quiver_of h.quiver) → Type 0
IsModuleByTerms h X = (v w : ℕ) → AreZeroByTerms h (X.dim v) (X.dim w) (path_matrix h.quiver X v w)

abbrev pub IsLeftModuleByTerms : (h : Header) → Rep h.field (opposite (quiver_of h.quiver)) → Type 0
IsLeftModuleByTerms h X = (v w : ℕ) → AreZeroByTerms h (X.dim w) (X.dim v) (left_path_matrix h.quiver X v w)
