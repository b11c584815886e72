-- Products of square blocks in lent memory, and of families of them, one after another.
use Rattle.std.specs.Prelude.{ℕ, ◌<◌, ◌≡◌, ◌+◌, ◌*◌, ◌/◌, ◌%◌, List, slice_index}
use Rattle.linear_algebra.specs.Field.{Gf, mul}
use Rattle.linear_algebra.specs.Sums.{sum_to}
use Rattle.linear_algebra.specs.BlockFamilies.{total}
use Rattle.module_checks.specs.Commuting.{block_sizes}

-- entry (i, j) of the product of the square blocks with d rows that begin at a place
unfoldable pub block_entry : Gf → ℕ → ℕ → List ℕ → List ℕ → ℕ → ℕ → ℕ
block_entry q d from left right i j = sum_to q d (λ t. mul q (slice_index left (from + (i * d + t))) (slice_index right (from + (t * d + j))))

-- the entries, counted row by row
abbrev pub block_product : Gf → ℕ → ℕ → List ℕ → List ℕ → ℕ → ℕ
block_product q d from left right e = block_entry q d from left right (e / d) (e % d)

-- At each of the first k vertices the block of out is the product of those of left and right.
pub record AreBlockProducts (q : Gf) (dims : List ℕ) (k : ℕ) (left right out : List ℕ) : Type 0 where
  pub each : (v e : ℕ) → v < k → e < slice_index dims v * slice_index dims v
      → slice_index out (total v (block_sizes dims dims) + e) ≡ block_product q (slice_index dims v) (total v (block_sizes dims dims)) left right e
