-- The radical of a module by an embedding. (Assem, Simson, Skowroński, volume 1, chapter III, 2.2.)
use Rattle.std.specs.Prelude.{ℕ}
use Rattle.linear_algebra.specs.Field.{Gf}
use Rattle.linear_algebra.specs.Rank.{IsInSpan}
use Rattle.representations.specs.Quiver.{Quiver}
use Rattle.representations.specs.Rep.{Rep}
use Rattle.representations.specs.Hom.{Hom}
use Rattle.representations.specs.Module.{IsMono}
use Rattle.representations.specs.RadicalModule.{arrow_rows}

-- N is the radical of X, by the embedding i: i is injective, and at each vertex the span of its rows is the sum of the images of the arrows
-- that end there.
pub record IsRadical {q : Gf} {Q : Quiver} {N X : Rep q Q} (i : Hom N X) : Type 0 where
  pub mono : IsMono i
  pub within : (w : ℕ) → IsInSpan (arrow_rows X w) (i.at w)
  pub has : (w : ℕ) → IsInSpan (i.at w) (arrow_rows X w)
