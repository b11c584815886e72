-- Lists of modules: their sides, their shapes, and their sum. (Assem, Simson, Skowroński, volume 1, chapter I, 4.)
use Rattle.std.specs.Prelude.{ℕ, ◌<◌, ◌≡◌, List, length, slice_index_or}
use Rattle.path_algebra.specs.declared.Header.{Header}
use Rattle.representations.specs.Sum.{sum_family}
use Rattle.module_types.specs.declared.Side.{Side}
use Rattle.module_types.specs.declared.Module.{Module}
use Rattle.module_types.specs.Algebras.{algebra_at}
use Rattle.module_types.specs.Readings.{rep_of}
use Rattle.module_types.specs.Shapes.{IsModule}
use Rattle.module_types.specs.Written.{part_at}

-- the first k modules have the side
pub record HaveSide (side : Side) (modules : List Module) (k : ℕ) : Type 0 where
  pub each : (i : ℕ) (m : Module) → i < k → (slice_index_or modules i m).side ≡ side

-- each has the shapes of its side
pub record AreModules (h : Header) (modules : List Module) : Type 0 where
  pub each : (i : ℕ) (m : Module) → i < length modules → IsModule h.field (algebra_at (slice_index_or modules i m).side h).quiver (slice_index_or modules i m)

-- s, read on the side, is the sum of the modules
abbrev pub IsWholeSum : (h : Header) → Side → Module → List Module → Type 0
IsWholeSum h side s modules = rep_of h.field (algebra_at side h).quiver s ≡ sum_family (length modules) (part_at h.field (algebra_at side h).quiver side modules)
