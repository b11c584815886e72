-- Minimal projective covers. (Assem, Simson, Skowroński, volume 1, chapter I, 5.)
use Rattle.std.specs.Prelude.{ℕ, ◌≡◌}
use Rattle.linear_algebra.specs.Field.{Gf}
use Rattle.linear_algebra.specs.Matrix.{Row, zeros, ◌·◌}
use Rattle.representations.specs.Quiver.{Quiver, BoundQuiver}
use Rattle.representations.specs.Rep.{Rep}
use Rattle.representations.specs.Hom.{Hom}
use Rattle.representations.specs.Module.{IsEpi}
use Rattle.representations.specs.Radical.{IsInRadical}
use Rattle.projectives.specs.Words.{Words, IsWordBasis}
use Rattle.projectives.specs.Families.{projectives}

-- Each row that f takes to zero lies in the radical.
abbrev pub KernelInRadical : {q : Gf} {Q : Quiver} {X Y : Rep q Q} → Hom X Y → Type 0
KernelInRadical {q} {Q} {X} {Y} f = (w : ℕ) (x : Row q (X.dim w)) → x · f.at w ≡ zeros q 1 (Y.dim w) → IsInRadical X w x

-- A minimal cover of X: out of a sum of projective modules at vertices, onto X, with its kernel in the radical. The words W are a basis of the
-- algebra A, so that the sum is projective; at a number that is no vertex its part is zero.
pub record IsMinimalCover {q : Gf} (A : BoundQuiver) (W : Words q A.quiver) (B : IsWordBasis A W) (k : ℕ) (v : ℕ → ℕ) {X : Rep q A.quiver} (f : Hom (projectives W k v) X) : Type 0 where
  pub onto : IsEpi f
  pub minimal : KernelInRadical f
