-- Identity matrices in square blocks, one after another.
use Rattle.std.specs.Prelude.{ℕ, ◌<◌, ◌≡◌, ◌+◌, ◌*◌, ◌/◌, ◌%◌, List, slice_index}
use Rattle.linear_algebra.specs.Matrix.{delta}
use Rattle.linear_algebra.specs.BlockFamilies.{total}
use Rattle.module_checks.specs.Commuting.{block_sizes}

-- the entries of the identity matrix with d rows, row by row
abbrev pub unit_entry : ℕ → ℕ → ℕ
unit_entry d e = delta (e / d) (e % d)

-- At each of the first k vertices the block is the identity matrix.
pub record AreUnits (dims : List ℕ) (k : ℕ) (out : List ℕ) : Type 0 where
  pub each : (v e : ℕ) → v < k → e < slice_index dims v * slice_index dims v → slice_index out (total v (block_sizes dims dims) + e) ≡ unit_entry (slice_index dims v) e
