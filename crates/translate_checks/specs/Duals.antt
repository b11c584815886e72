-- Modules that are dual to one another, by their printed matrices. (Assem, Simson, Skowroński, volume 1, chapter I, 2.9.)
use Rattle.std.specs.Prelude.{ℕ, ◌≡◌, ◌<◌, List, slice_index, slice_index_or}
use Rattle.linear_algebra.specs.Rows.{entry}
use Rattle.fp_linear.specs.Matrix.{PlainMatrix}

-- row i of b is column i of a, in the first n places; in the first n rows
pub record IsTransposedRow (a b : PlainMatrix) (i n : ℕ) : Type 0 where
  pub at : (j : ℕ) → j < n → entry b.rows i j ≡ entry a.rows j i

pub record IsTransposed (a b : PlainMatrix) (n : ℕ) : Type 0 where
  pub each : (i : ℕ) → i < n → IsTransposedRow a b i b.col_count

-- the first n matrices are transposed to one another
pub record AreTransposed (a b : List PlainMatrix) (n : ℕ) : Type 0 where
  pub each : (k : ℕ) (x y : PlainMatrix) → k < n → IsTransposed (slice_index_or a k x) (slice_index_or b k y) (slice_index_or b k y).row_count

-- the first n numbers are the same
pub record AgreeBelow (a b : List ℕ) (n : ℕ) : Type 0 where
  pub at : (v : ℕ) → v < n → slice_index a v ≡ slice_index b v
