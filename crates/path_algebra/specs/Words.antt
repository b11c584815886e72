-- Normal words, and bases of the quotient by words. (Green's Gröbner bases for path algebras.)
use Rattle.std.specs.Prelude.{ℕ, ◌≡◌, ◌≢◌, ◌<◌, ◌⊎◌, List, length, Contains, All}
use Rattle.linear_algebra.specs.Field.{order}
use Rattle.quiver_paths.specs.declared.Path.{Path}
use Rattle.quiver_paths.specs.Path.{IsPath, path_length}
use Rattle.quiver_paths.specs.PathOrder.{IsSmaller, IsAscending}
use Rattle.path_algebra.specs.declared.Header.{Header}
use Rattle.path_algebra.specs.Elements.{path_element, combination}
use Rattle.path_algebra.specs.Ideals.{IsInIdeal, Congruent}

-- a path of the quiver that is shorter than the bound
pub record IsShortPath (h : Header) (p : Path) : Type 0 where
  pub path : IsPath h.quiver p
  pub short : path_length p < h.bound

-- p is the greatest path of the element x: x is not zero there, and zero at all greater paths
pub record IsGreatestPath (x : Path → ℕ) (p : Path) : Type 0 where
  pub nonzero : x p ≢ 0
  pub greatest : (r : Path) → x r ≢ 0 → (r ≡ p) ⊎ IsSmaller r p

-- p is the greatest path of an element of the ideal
pub record IsTip (h : Header) (p : Path) : Type 0 where
  pub element : Path → ℕ
  pub in_ideal : IsInIdeal h element
  pub greatest : IsGreatestPath element p

-- a path shorter than the bound that is the greatest path of no element of the ideal
pub record IsNormal (h : Header) (p : Path) : Type 0 where
  pub short : IsShortPath h p
  pub no_tip : IsTip h p → ⊥

-- the words are exactly the normal paths, in ascending order
pub record AreNormalWords (h : Header) (words : List Path) : Type 0 where
  pub ascending : IsAscending words
  pub all : (p : Path) → IsNormal h p → Contains words p
  pub only : (p : Path) → Contains words p → IsNormal h p

-- coefficients in the field, one for each of the words
pub record IsCoefficients (h : Header) (words : List Path) (c : List ℕ) : Type 0 where
  pub count : length c ≡ length words
  pub small : All (λ a. a < order h.field) c

-- the path is congruent to this combination of the words
pub record IsExpansion (h : Header) (words : List Path) (p : Path) (c : List ℕ) : Type 0 where
  pub coefficients : IsCoefficients h words c
  pub congruent : Congruent h (path_element h.bound p) (combination h.field h.bound c words)

-- the path is congruent to exactly one combination of the words
pub record HasOneExpansion (h : Header) (words : List Path) (p : Path) : Type 0 where
  pub expansion : List ℕ
  pub expands : IsExpansion h words p expansion
  pub unique : (c : List ℕ) → IsExpansion h words p c → c ≡ expansion

-- The words are a basis of the quotient: they are short paths of the quiver, and each path shorter than the bound is congruent to exactly one
-- combination of them.
pub record IsBasis (h : Header) (words : List Path) : Type 0 where
  pub paths : All (IsShortPath h) words
  pub expands : (p : Path) → IsShortPath h p → HasOneExpansion h words p
