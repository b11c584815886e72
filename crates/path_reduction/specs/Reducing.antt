-- Elements on the way to what they become by reduction.
use Rattle.std.specs.Prelude.{ℕ, ◌≡◌, ◌≢◌, ◌<◌, ◌≤◌, ◌+◌, List, length, Contains, All, slice_index, slice_set}
use Rattle.linear_algebra.specs.Field.{add, mul}
use Rattle.linear_algebra.specs.Rows.{IsRow}
use Rattle.quiver_paths.specs.declared.Path.{Path}
use Rattle.quiver_paths.specs.Path.{IsPath, Meets, concat}
use Rattle.quiver_paths.specs.PathOrder.{IsSmaller}
use Rattle.quiver_paths.specs.PathList.{paths_below, ListsPathsBelow}
use Rattle.path_algebra.specs.declared.Term.{Term}
use Rattle.path_algebra.specs.declared.Header.{Header}
use Rattle.path_algebra.specs.declared.rules.Rule.{Rule}
use Rattle.path_algebra.specs.Elements.{sum_over, sum_of_terms, combination, product_between}
use Rattle.path_algebra.specs.Rows.{path_at}
use Rattle.path_algebra.specs.Rules.{AreElementTerms}
use Rattle.path_algebra.specs.Reduction.{HasNoTip, IsReduction}
use Rattle.path_reduction.specs.Gaps.{reduced_terms}
use Rattle.path_reduction.specs.Occurrences.{part_before, part_behind}

-- descending terms without a tip, which the given terms become by reduction
pub record AreReducedTo (h : Header) (rules : List Rule) (given terms : List Term) : Type 0 where
  pub are : AreElementTerms h terms
  pub no_tip : All (λ (a : Term). HasNoTip h rules a.path) terms
  pub value : (becomes : Path → Path → ℕ) → IsReduction h rules becomes → (r : Path) → sum_of_terms h.field h.bound terms r ≡ reduced_terms h becomes given r

-- one element and another
abbrev pub beside : Header → (Path → ℕ) → (Path → ℕ) → Path → ℕ
beside h x y p = add h.field (x p) (y p)

-- what an element becomes
unfoldable pub extended : Header → (Path → Path → ℕ) → (Path → ℕ) → Path → ℕ
extended h becomes x r = sum_over h.field (paths_below h.quiver h.bound) (λ p. mul h.field (x p) (becomes p r))

-- the element with these coefficients at the paths
abbrev pub row_element : Header → List Path → List ℕ → Path → ℕ
row_element h paths row = combination h.field h.bound row paths

-- these are the coefficients of the element x
pub record HoldsElement (h : Header) (paths : List Path) (x : Path → ℕ) (row : List ℕ) : Type 0 where
  pub row_is : IsRow h.field (length paths) row
  pub value : (r : Path) → row_element h paths row r ≡ x r

-- the coefficients from one place to another are zero
abbrev pub AreZeros : List ℕ → ℕ → ℕ → Type 0
AreZeros row from to = (j : ℕ) → from ≤ j → j < to → slice_index row j ≡ 0

-- the last place before another with a coefficient
pub record IsLastPlace (row : List ℕ) (end place : ℕ) : Type 0 where
  pub inside : place < end
  pub nonzero : slice_index row place ≢ 0
  pub zeros : AreZeros row (place + 1) end

-- The paths from a place on that have a coefficient have no tip; the element becomes what the given terms become.
pub record IsReducing (h : Header) (rules : List Rule) (given : List Term) (paths : List Path) (row : List ℕ) (place : ℕ) : Type 0 where
  pub row_is : IsRow h.field (length paths) row
  pub no_tip : (j : ℕ) → place ≤ j → j < length paths → slice_index row j ≢ 0 → HasNoTip h rules (path_at paths j)
  pub value : (becomes : Path → Path → ℕ) → IsReduction h rules becomes → (r : Path) → extended h becomes (row_element h paths row) r ≡ reduced_terms h becomes given r

-- x is added to the element, which has no path but such as are smaller than p
pub record IsAdded (h : Header) (paths : List Path) (x : Path → ℕ) (p : Path) (old new : List ℕ) : Type 0 where
  pub row_is : IsRow h.field (length paths) new
  pub kept : (j : ℕ) → (IsSmaller (path_at paths j) p → ⊥) → slice_index new j ≡ slice_index old j
  pub value : (r : Path) → row_element h paths new r ≡ add h.field (row_element h paths old r) (x r)

-- the term meets u and v, and is smaller than p between them
pub record IsMet (h : Header) (u v p : Path) (a : Term) : Type 0 where
  pub path : IsPath h.quiver a.path
  pub before : Meets u a.path
  pub behind : Meets a.path v
  pub smaller : IsSmaller (concat u (concat a.path v)) p

-- u stands at this place of the short paths, v has these arrows, and the terms are met by both
pub record AreMet (h : Header) (paths : List Path) (first : ℕ) (terms : List Term) (arrows : List ℕ) (u v p : Path) : Type 0 where
  pub lists : ListsPathsBelow h.quiver h.bound paths
  pub first_is : path_at paths first ≡ u
  pub arrows_are : v.arrows ≡ arrows
  pub before_is : IsPath h.quiver u
  pub behind_is : IsPath h.quiver v
  pub each : (a : Term) → Contains terms a → IsMet h u v p a

-- a multiple of u·x·v
abbrev pub multiple_between : Header → ℕ → Path → List Term → Path → Path → ℕ
multiple_between h c u terms v r = mul h.field c (product_between h.bound u (sum_of_terms h.field h.bound terms) v r)

-- the rule's tail in the place of its tip in the path p, behind so many of its arrows
abbrev pub tail_at : Header → ℕ → Rule → Path → ℕ → Path → ℕ
tail_at h c rule p n = multiple_between h c (part_before p rule n) rule.tail.terms (part_behind p rule n)

-- the path at a place is rewritten by a rule whose tip stands behind so many of its arrows
abbrev pub IsRewritten : Header → List Path → Rule → ℕ → ℕ → List ℕ → List ℕ → Type 0
IsRewritten h paths rule place n old new =
    IsAdded h paths (tail_at h (slice_index old place) rule (path_at paths place) n) (path_at paths place) (slice_set old place 0) new
