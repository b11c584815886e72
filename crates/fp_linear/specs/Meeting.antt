-- Rows of numbers as homogeneous linear equations on a function of places. (Any textbook of linear algebra.)
use Rattle.std.specs.Prelude.{ℕ, ◌<◌, ◌≤◌, ◌≡◌, ◌+◌, ◌*◌, List, slice_index}
use Rattle.linear_algebra.specs.Field.{Gf, mul}
use Rattle.linear_algebra.specs.Sums.{sum_to}

-- the n numbers from `start` on, each times x at its place, summed
unfoldable pub dot : Gf → ℕ → List ℕ → ℕ → (ℕ → ℕ) → ℕ
dot q n s start x = sum_to q n (λ t. mul q (slice_index s (start + t)) (x t))

-- x meets the first m rows of n numbers: each takes it to zero
pub record Meets (q : Gf) (n m : ℕ) (s : List ℕ) (x : ℕ → ℕ) : Type 0 where
  pub rows : (i : ℕ) → i < m → dot q n s (i * n) x ≡ 0

-- zeros from a place on
pub record IsClearFrom (at : ℕ) (s : List ℕ) : Type 0 where
  pub clear : (k : ℕ) → at ≤ k → slice_index s k ≡ 0
