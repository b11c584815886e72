-- Rows and columns of printed matrices, times numbers in slices.
use Rattle.std.specs.Prelude.{ℕ, ◌≡◌, ◌<◌, ◌+◌, ◌*◌, List, slice_index}
use Rattle.linear_algebra.specs.Field.{Gf, mul}
use Rattle.linear_algebra.specs.Sums.{sum_to}
use Rattle.linear_algebra.specs.Rows.{entry}
use Rattle.linear_algebra.specs.Matrix.{Mat}
use Rattle.fp_linear.specs.Matrix.{PlainMatrix}

-- the first n entries of row r, times the numbers from place `start` on; those numbers, times the first n entries of column j
abbrev pub row_dot : Gf → ℕ → PlainMatrix → ℕ → List ℕ → ℕ → ℕ
row_dot q n a r s start = sum_to q n (λ t. mul q (entry a.rows r t) (slice_index s (start + t)))

abbrev pub column_dot : Gf → ℕ → List ℕ → ℕ → PlainMatrix → ℕ → ℕ
column_dot q n s start a j = sum_to q n (λ t. mul q (slice_index s (start + t)) (entry a.rows t j))

-- each row of the matrix takes the numbers from `start` on to zero; the numbers take each of the first n columns to zero
pub record RowsVanish (q : Gf) (a : PlainMatrix) (s : List ℕ) (start n : ℕ) : Type 0 where
  pub at : (r : ℕ) → r < n → row_dot q a.col_count a r s start ≡ 0

pub record ColumnsVanish (q : Gf) (s : List ℕ) (start : ℕ) (a : PlainMatrix) (n : ℕ) : Type 0 where
  pub at : (j : ℕ) → j < n → column_dot q a.row_count s start a j ≡ 0

-- the same of the first k rows of a slice, which are as long as the matrix has columns, or rows
pub record VanishOnRows (q : Gf) (a : PlainMatrix) (s : List ℕ) (k : ℕ) : Type 0 where
  pub each : (c : ℕ) → c < k → RowsVanish q a s (c * a.col_count) a.row_count

pub record RowsVanishOn (q : Gf) (s : List ℕ) (a : PlainMatrix) (k : ℕ) : Type 0 where
  pub each : (c : ℕ) → c < k → ColumnsVanish q s (c * a.row_count) a a.col_count

-- a slice holds row j of a matrix, and zeros behind it; it holds column j
pub record HoldsRow {q : Gf} {m n : ℕ} (a : Mat q m n) (j : ℕ) (s : List ℕ) : Type 0 where
  pub at : (i : ℕ) → slice_index s i ≡ a.at j i

pub record HoldsColumn {q : Gf} {m n : ℕ} (a : Mat q m n) (j : ℕ) (s : List ℕ) : Type 0 where
  pub at : (i : ℕ) → slice_index s i ≡ a.at i j
