-- Linear functionals that are zero on a row space and not zero on a row outside it. (Any textbook of linear algebra.)
use Rattle.std.specs.Prelude.{ℕ, ◌<◌, ◌≡◌, ◌≢◌, List, [], length, slice_index, slice_index_or}
use Rattle.linear_algebra.specs.Field.{Gf, mul, neg}
use Rattle.linear_algebra.specs.Sums.{sum_to}
use Rattle.linear_algebra.specs.Rows.{entry, IsGrid, IsInSpan, SameSpan}
use Rattle.linear_algebra.specs.Reduced.{leading, pivot, remainder, IsReduced}

-- x 0 · y 0 + .. + x (n − 1) · y (n − 1)
unfoldable pub dot : Gf → ℕ → List ℕ → List ℕ → ℕ
dot q n x y = sum_to q n (λ j. mul q (slice_index x j) (slice_index y j))

-- y is 1 in column c, minus the entry in column c of a row of the matrix in reduced row form at the pivot column of that row, and zero elsewhere.
pub record IsFunctionalAt (q : Gf) (n : ℕ) (form : List (List ℕ)) (c : ℕ) (y : List ℕ) : Type 0 where
  pub count : length y ≡ n
  pub at_column : slice_index y c ≡ 1
  pub at_pivot : (i : ℕ) → i < length form → slice_index y (pivot form i) ≡ neg q (entry form i c)
  pub elsewhere : (j : ℕ) → j < n → j ≢ c → ((i : ℕ) → i < length form → pivot form i ≢ j) → slice_index y j ≡ 0

-- x is outside the span of the rows, and y is the functional of the first column where the remainder of x modulo the reduced row form of the rows is not
-- zero; it is zero on every row and not zero on x.
pub record IsSeparated (q : Gf) (n : ℕ) (rows : List (List ℕ)) (x y : List ℕ) : Type 0 where
  pub form : List (List ℕ)
  pub grid : IsGrid q (length form) n form
  pub reduced : IsReduced n form
  pub span : SameSpan q n rows form
  pub column : leading (remainder q n form x) < n
  pub functional : IsFunctionalAt q n form (leading (remainder q n form x)) y
  pub outside : IsInSpan q n rows x → ⊥
  pub zero : (i : ℕ) → i < length rows → dot q n (slice_index_or rows i []) y ≡ 0
  pub nonzero : dot q n x y ≢ 0
