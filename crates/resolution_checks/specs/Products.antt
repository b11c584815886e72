-- Products of matrices that stand in slices, row by row, entry by entry.
use Rattle.std.specs.Prelude.{ℕ, ◌<◌, ◌≡◌, ◌+◌, ◌*◌, List, slice_index}
use Rattle.linear_algebra.specs.Field.{Gf, mul}
use Rattle.linear_algebra.specs.Sums.{sum_to}

-- what the first p columns of f, which has k, and the rows of g, which has n columns, give at row i and column j of the product
abbrev pub partial_entry : Gf → (k n : ℕ) → List ℕ → List ℕ → (i j p : ℕ) → ℕ
partial_entry q k n f g i j p = sum_to q p (λ t. mul q (slice_index f (i * k + t)) (slice_index g (t * n + j)))

-- the product is zero in row i; in the first m rows
pub record IsZeroRow (q : Gf) (k n : ℕ) (f g : List ℕ) (i c : ℕ) : Type 0 where
  pub at : (j : ℕ) → j < c → partial_entry q k n f g i j k ≡ 0

pub record IsZeroProduct (q : Gf) (m k n : ℕ) (f g : List ℕ) : Type 0 where
  pub each : (i : ℕ) → i < m → IsZeroRow q k n f g i n
