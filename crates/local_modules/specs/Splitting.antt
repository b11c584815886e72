-- Proper decompositions in two parts. (Assem, Simson, Skowroński, volume 1, chapter I, 4.)
use Rattle.std.specs.Prelude.{ℕ, zero, ◌≢◌}
use Rattle.linear_algebra.specs.Field.{Gf}
use Rattle.representations.specs.Quiver.{Quiver}
use Rattle.representations.specs.Rep.{Rep}
use Rattle.representations.specs.Hom.{Hom}
use Rattle.representations.specs.Module.{IsIso}
use Rattle.representations.specs.Sum.{sum_rep}

-- some vertex has rows
pub record HasRows {q : Gf} {Q : Quiver} (X : Rep q Q) : Type 0 where
  pub vertex : ℕ
  pub nonzero : X.dim vertex ≢ zero

-- X is the direct sum of two modules that are not zero
pub record ProperSplitting {q : Gf} {Q : Quiver} (X : Rep q Q) : Type 0 where
  pub first : Rep q Q
  pub second : Rep q Q
  pub whole : Hom (sum_rep first second) X
  pub iso : IsIso whole
  pub first_has : HasRows first
  pub second_has : HasRows second
