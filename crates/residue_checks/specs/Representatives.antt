-- Rows that stand for the classes of a space modulo another one.
use Rattle.std.specs.Prelude.{ℕ}
use Rattle.linear_algebra.specs.Field.{Gf}
use Rattle.linear_algebra.specs.Matrix.{Mat, Row, ◌·◌}
use Rattle.linear_algebra.specs.Rank.{IsInSpan}
use Rattle.local_modules.specs.Ideal.{IsCongruent}

-- coordinates over some rows of an element in the class of x
pub record HasClass {q : Gf} {k b n : ℕ} (ideal : Mat q k n) (some : Mat q b n) (x : Mat q 1 n) : Type 0 where
  pub coordinates : Row q b
  pub is : IsCongruent ideal x (coordinates · some)

-- These rows are members, and each member has the class of a combination of them.
pub record AreRepresentatives {q : Gf} {m k b n : ℕ} (ring : Mat q m n) (ideal : Mat q k n) (some : Mat q b n) : Type 0 where
  pub inside : IsInSpan ring some
  pub each : (x : Mat q 1 n) → IsInSpan ring x → HasClass ideal some x
