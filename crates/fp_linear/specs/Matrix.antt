-- A matrix as contracts see it: its field, its counts and its list of rows.
use Rattle.std.specs.Prelude.{ℕ, ◌≤◌, ◌≡◌, ◌*◌, List, length}
use Rattle.linear_algebra.specs.Field.{Gf}
use Rattle.linear_algebra.specs.Rows.{list_of, zeros, IsGrid}
use Rattle.fp_linear.specs.Slices.{AreElements}

pub record PlainMatrix : Type 0 where
  pub field : Gf
  pub row_count : ℕ
  pub col_count : ℕ
  pub rows : List (List ℕ)

abbrev pub plain : Gf → ℕ → ℕ → List (List ℕ) → PlainMatrix
plain q m n rows = record { field = q; row_count = m; col_count = n; rows = rows }

-- the largest number of entries
abbrev pub most_entries : ℕ
most_entries = 67108864

-- What each `Matrix` keeps: the rows are as many and as long as the counts say, the entries are elements of the field, and there are not too many.
pub record IsMatrix (m : PlainMatrix) : Type 0 where
  pub grid : IsGrid m.field m.row_count m.col_count m.rows
  pub fits : m.row_count * m.col_count ≤ most_entries

-- m zero rows of n entries
unfoldable pub zero_rows : ℕ → ℕ → List (List ℕ)
zero_rows m n = list_of m (λ _. zeros n)

-- what the fields of a `Matrix` keep
pub record HoldsMatrix (q : Gf) (m n : ℕ) (entries : List ℕ) : Type 0 where
  pub count : length entries ≡ m * n
  pub small : AreElements q entries
  pub fits : m * n ≤ most_entries
