-- The columns where the reduced row form of a matrix has its pivots, and rows that are zero there.
use Rattle.std.specs.Prelude.{ℕ, ◌<◌, ◌≡◌, List, [], slice_index, slice_index_or}
use Rattle.linear_algebra.specs.Field.{Gf}
use Rattle.linear_algebra.specs.Matrix.{Mat}
use Rattle.linear_algebra.proofs.RowForm.{reduced_form}

-- the first r numbers are the pivots of the reduced row form of the matrix, which has r rows
pub record HasPivots {q : Gf} {m n : ℕ} (f : Mat q m n) (r : ℕ) (pivots : List ℕ) : Type 0 where
  pub size : r ≡ (reduced_form f).size
  pub at : (i : ℕ) → i < r → slice_index pivots i ≡ (reduced_form f).pivot i

-- a row is zero at the first r of some places; so are the first m rows
pub record IsClearedAt (row places : List ℕ) (r : ℕ) : Type 0 where
  pub at : (k : ℕ) → k < r → slice_index row (slice_index places k) ≡ 0

pub record AreClearedAt (rows : List (List ℕ)) (m : ℕ) (places : List ℕ) (r : ℕ) : Type 0 where
  pub each : (i : ℕ) → i < m → IsClearedAt (slice_index_or rows i []) places r
