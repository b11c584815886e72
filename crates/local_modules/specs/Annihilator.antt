-- Spaces of rows at a vertex that a matrix algebra takes to themselves, and the elements that take such a space to zero.
-- (Assem, Simson, Skowroński, volume 1, chapter I, 1.)
use Rattle.std.specs.Prelude.{ℕ, ◌≡◌}
use Rattle.linear_algebra.specs.Field.{Gf}
use Rattle.linear_algebra.specs.Matrix.{Mat, Row, zeros, ◌·◌}
use Rattle.linear_algebra.specs.Rank.{IsInSpan}
use Rattle.representations.specs.Quiver.{Quiver}
use Rattle.representations.specs.Rep.{Rep}
use Rattle.local_modules.specs.MatrixAlgebra.{MatrixAlgebra}

module _ {q : Gf} {Q : Quiver} {X : Rep q Q} (M : MatrixAlgebra X) (v : ℕ) {k : ℕ} (W : Mat q k (X.dim v)) where
  -- Each element takes the span of W to itself.
  abbrev pub IsStableAt : Type 0
  IsStableAt = (x : Row q M.size) → IsInSpan W (W · (M.element x).at v)

  -- The span of I are the elements that take W to zero.
  pub record IsAnnihilatorAt {l : ℕ} (I : Mat q l M.size) : Type 0 where
    pub kills : (x : Row q M.size) → IsInSpan I x → W · (M.element x).at v ≡ zeros q k (X.dim v)
    pub all : (x : Row q M.size) → W · (M.element x).at v ≡ zeros q k (X.dim v) → IsInSpan I x
