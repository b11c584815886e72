-- Decompositions into local modules. (Assem, Simson, Skowroński, volume 1, chapter I, 4.)
use Rattle.std.specs.Prelude.{ℕ, ◌<◌}
use Rattle.linear_algebra.specs.Field.{Gf}
use Rattle.representations.specs.Quiver.{Quiver}
use Rattle.representations.specs.Rep.{Rep}
use Rattle.representations.specs.Module.{Biproduct}
use Rattle.local_modules.specs.Local.{IsLocal}

-- A decomposition of X as a direct sum of local modules, with the injections and the projections of its parts.
pub record LocalDecomposition {q : Gf} {Q : Quiver} (X : Rep q Q) : Type 0 where
  pub parts : Biproduct X
  pub local : (i : ℕ) → i < parts.count → IsLocal (parts.summand i).part
