-- Numbers added at places of a slice: what the rows of it that stand as equations ask then.
use Rattle.std.specs.Prelude.{ℕ, ◌<◌, ◌≤◌, ◌≡◌, ◌≢◌, ◌+◌, ◌*◌, List, slice_index}
use Rattle.linear_algebra.specs.Field.{Gf, add, mul, neg}
use Rattle.linear_algebra.specs.Sums.{sum_to}
use Rattle.linear_algebra.specs.Rows.{entry}
use Rattle.fp_linear.specs.Meeting.{dot}

-- new is old, but that at one place a value is added
pub record IsAddedAt (q : Gf) (at value : ℕ) (old new : List ℕ) : Type 0 where
  pub there : slice_index new at ≡ add q (slice_index old at) value
  pub elsewhere : (k : ℕ) → k ≢ at → slice_index new k ≡ slice_index old k

-- Among the n numbers from `start` on, value t is added at place t, for each t below the count; nothing else changes.
pub record IsSpread (q : Gf) (start n count : ℕ) (value place : ℕ → ℕ) (old new : List ℕ) : Type 0 where
  pub dots : (x : ℕ → ℕ) → dot q n new start x ≡ add q (dot q n old start x) (sum_to q count (λ t. mul q (value t) (x (place t))))
  pub before : (k : ℕ) → k < start → slice_index new k ≡ slice_index old k
  pub behind : (k : ℕ) → start + n ≤ k → slice_index new k ≡ slice_index old k

-- places in steps from the first on, and the negatives of a column
abbrev pub in_steps : ℕ → ℕ → ℕ → ℕ
in_steps first step k = first + k * step

abbrev pub from_first : ℕ → ℕ → ℕ
from_first first l = first + l

abbrev pub negated_column : Gf → List (List ℕ) → ℕ → ℕ → ℕ
negated_column q rows j l = neg q (entry rows l j)
