-- Solutions of X · a = y, and inverses. (Any textbook of linear algebra.)
use Rattle.std.specs.Prelude.{ℕ, ◌<◌, ◌≡◌, ◌≢◌, ◌+◌, List}
use Rattle.linear_algebra.specs.Field.{Gf}
use Rattle.linear_algebra.specs.Rows.{entry, IsGrid, product, identity}
use Rattle.linear_algebra.specs.Reduced.{ReducesTo}

-- x is a matrix with k rows and m columns for which x · a = y, where a has m rows, y has k rows, and both have n columns.
pub record IsSolution (q : Gf) (k m n : ℕ) (a y x : List (List ℕ)) : Type 0 where
  pub grid : IsGrid q k m x
  pub solves : product q n x a ≡ y

-- x is the inverse of the matrix a with n rows and n columns.
pub record IsInverse (q : Gf) (n : ℕ) (a x : List (List ℕ)) : Type 0 where
  pub grid : IsGrid q n n x
  pub left : product q n x a ≡ identity n
  pub right : product q n a x ≡ identity n

-- The rows of wide are the columns of a, each followed by the column of y with the same number.
pub record AreEquations (q : Gf) (m k n : ℕ) (a y wide : List (List ℕ)) : Type 0 where
  pub grid : IsGrid q n (m + k) wide
  pub coefficient : (t j : ℕ) → t < n → j < m → entry wide t j ≡ entry a j t
  pub constant : (t l : ℕ) → t < n → l < k → entry wide t (m + l) ≡ entry y l t

-- The first `rank` rows of wide are the reduced row form of those equations.
pub record AreReducedEquations (q : Gf) (m k n : ℕ) (a y wide : List (List ℕ)) (pivots : List ℕ) (rank : ℕ) : Type 0 where
  pub start : List (List ℕ)
  pub equations : AreEquations q m k n a y start
  pub form : ReducesTo q (m + k) start wide pivots rank

-- x is read from the first i of the reduced equations: its column at a pivot is what stands behind column m in that equation, its other columns are zero.
pub record IsReadFrom (m k i : ℕ) (p : ℕ → ℕ) (reduced x : ℕ → ℕ → ℕ) : Type 0 where
  pub at : (a l : ℕ) → a < i → l < k → x l (p a) ≡ reduced a (m + l)
  pub elsewhere : (l j : ℕ) → l < k → j < m → ((a : ℕ) → a < i → p a ≢ j) → x l j ≡ 0
