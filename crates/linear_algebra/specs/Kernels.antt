-- The kernel of a matrix, and the matrix with the identity to its right, from whose reduced row form it is read.
-- (Any textbook of linear algebra.)
use Rattle.std.specs.Prelude.{ℕ, ◌<◌, ◌≤◌, ◌≡◌, ◌+◌, ◌-◌, ◌↔◌, List, length, if◌then◌else◌, ◌==◌}
use Rattle.linear_algebra.specs.Field.{Gf}
use Rattle.linear_algebra.specs.Rows.{entry, IsRow, IsGrid, zeros, times, IsInSpan}
use Rattle.linear_algebra.specs.Reduced.{pivot, IsReduced}

-- The rows of k are the basis in reduced row form of all rows x with x · a = 0, where a has m rows and n columns.
pub record IsKernel (q : Gf) (m n : ℕ) (a k : List (List ℕ)) : Type 0 where
  pub reduced : IsReduced m k
  pub all : (x : List ℕ) → IsRow q m x → IsInSpan q m k x ↔ (times q n x a ≡ zeros n)

-- wide is the matrix a of m rows and n columns with the identity to its right
pub record IsExtended (q : Gf) (m n : ℕ) (a wide : List (List ℕ)) : Type 0 where
  pub grid : IsGrid q m (n + m) wide
  pub count : length a ≡ m
  pub left : (i j : ℕ) → i < m → j < n → entry wide i j ≡ entry a i j
  pub right : (i j : ℕ) → i < m → j < m → entry wide i (n + j) ≡ (if i == j then 1 else 0)

-- Of the r reduced rows the first l have their pivots before column n, and the rows of k are the ends of the others.
pub record AreEnds (q : Gf) (m n r l : ℕ) (reduced k : List (List ℕ)) : Type 0 where
  pub grid : IsGrid q r (n + m) reduced
  pub form : IsReduced (n + m) reduced
  pub fits : l ≤ r
  pub before : (i : ℕ) → i < l → pivot reduced i < n
  pub behind : (i : ℕ) → l ≤ i → i < r → n ≤ pivot reduced i
  pub kernel : IsGrid q (r - l) m k
  pub ends : (a j : ℕ) → a < r - l → j < m → entry k a j ≡ entry reduced (l + a) (n + j)
