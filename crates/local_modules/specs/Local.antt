-- Local modules: indecomposable modules, by their endomorphisms. (Assem, Simson, Skowroński, volume 1, chapter I, 4.)
use Rattle.std.specs.Prelude.{ℕ, zero, ◌≢◌, ◌⊎◌}
use Rattle.linear_algebra.specs.Field.{Gf}
use Rattle.representations.specs.Quiver.{Quiver}
use Rattle.representations.specs.Rep.{Rep}
use Rattle.representations.specs.Hom.{Hom}
use Rattle.representations.specs.Module.{IsIso, IsNilpotent}

-- a module that is not zero, and each of whose endomorphisms has an inverse or a power that is zero
pub record IsLocal {q : Gf} {Q : Quiver} (X : Rep q Q) : Type 0 where
  pub vertex : ℕ
  pub nonzero : X.dim vertex ≢ zero
  pub decides : (x : Hom X X) → IsIso x ⊎ IsNilpotent x
