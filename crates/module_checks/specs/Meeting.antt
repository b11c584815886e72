-- The rows of a matrix that meet equations.
use Rattle.std.specs.Prelude.{ℕ, ◌<◌, [], List, slice_index, slice_index_or}
use Rattle.linear_algebra.specs.Field.{Gf}
use Rattle.fp_linear.specs.Matrix.{PlainMatrix}
use Rattle.fp_linear.specs.Meeting.{Meets}

-- each row of the matrix meets the first m rows
pub record AllMeet (q : Gf) (a : PlainMatrix) (m : ℕ) (s : List ℕ) : Type 0 where
  pub each : (i : ℕ) → i < a.row_count → Meets q a.col_count m s (slice_index (slice_index_or a.rows i []))
