-- Sums of dimensions.
use Rattle.std.specs.Prelude.{ℕ, ◌≡◌, ◌≤◌, ◌*◌, List, slice_index}
use Rattle.path_algebra.specs.declared.Header.{Header}
use Rattle.bound_algebra.specs.TypedPaths.{quiver_of}
use Rattle.module_types.specs.Readings.{dim_at}

-- a sum that is not greater than a limit
pub record IsSum (most sum n : ℕ) : Type 0 where
  pub same : n ≡ sum
  pub small : n ≤ most

-- at each vertex the product of the dimensions there
abbrev pub dim_products : Header → List ℕ → List ℕ → ℕ → ℕ
dim_products h x y v = dim_at (quiver_of h.quiver) x v * dim_at (quiver_of h.quiver) y v

-- the dimension at each of some vertices
abbrev pub dims_at : Header → List ℕ → List ℕ → ℕ → ℕ
dims_at h dims vertices j = dim_at (quiver_of h.quiver) dims (slice_index vertices j)
