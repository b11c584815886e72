-- The ideal that the relations generate, and congruence modulo it. (Assem, Simson, Skowroński, volume 1, chapter II.2.)
use Rattle.std.specs.Prelude.{ℕ, ◌≡◌, List, [], ◌∷◌, Contains, All}
use Rattle.linear_algebra.specs.Field.{add, mul, sub}
use Rattle.quiver_paths.specs.declared.Path.{Path}
use Rattle.quiver_paths.specs.Path.{IsPath}
use Rattle.path_algebra.specs.declared.Relation.{Relation}
use Rattle.path_algebra.specs.declared.Header.{Header}
use Rattle.path_algebra.specs.Elements.{sum_of_terms, product_between}

-- c u r v: a relation r with a path on each side, and a coefficient
pub record Summand : Type 0 where
  pub coefficient : ℕ
  pub left : Path
  pub relation : Relation
  pub right : Path

-- its two paths are paths of the quiver, and its relation is one of those written
pub record IsSummand (h : Header) (s : Summand) : Type 0 where
  pub left : IsPath h.quiver s.left
  pub relation : Contains h.relations s.relation
  pub right : IsPath h.quiver s.right

-- a written relation as an element, without its terms of length t or more
abbrev pub relation_element : Header → Relation → Path → ℕ
relation_element h r = sum_of_terms h.field h.bound r.terms

-- the summand as an element
unfoldable pub summand_element : Header → Summand → Path → ℕ
summand_element h s p = mul h.field s.coefficient (product_between h.bound s.left (relation_element h s.relation) s.right p)

-- the sum of the summands
unfoldable pub sum_of_summands : Header → List Summand → Path → ℕ
sum_of_summands h [] p = 0
sum_of_summands h (s ∷ rest) p = add h.field (summand_element h s p) (sum_of_summands h rest p)

-- x is in the ideal: it is a sum of products u r v with coefficients
pub record IsInIdeal (h : Header) (x : Path → ℕ) : Type 0 where
  pub summands : List Summand
  pub lawful : All (IsSummand h) summands
  pub value : (p : Path) → x p ≡ sum_of_summands h summands p

-- two elements x and y are congruent: their difference is in the ideal
abbrev pub Congruent : Header → (Path → ℕ) → (Path → ℕ) → Type 0
Congruent h x y = IsInIdeal h (λ p. sub h.field (x p) (y p))
