-- Rows of families whose products are members of a space.
use Rattle.std.specs.Prelude.{ℕ, ◌<◌}
use Rattle.linear_algebra.specs.Field.{Gf}
use Rattle.linear_algebra.specs.Matrix.{Mat}
use Rattle.linear_algebra.specs.Parts.{row}
use Rattle.linear_algebra.specs.Rank.{IsInSpan}
use Rattle.local_modules.specs.Algebra.{Algebra, Element}
use Rattle.local_modules.specs.Ideal.{IsCongruent}

-- The products of x and y on both sides are in the span.
pub record IsClosedAt {q : Gf} (E : Algebra q) {k : ℕ} (ideal : Mat q k E.size) (x y : Element E) : Type 0 where
  pub left : IsInSpan ideal (E.product x y)
  pub right : IsInSpan ideal (E.product y x)

-- So are those of x and each row of the ideal; and those of the first n rows of the ring.
abbrev pub IsClosedUnder : {q : Gf} (E : Algebra q) {k : ℕ} (ideal : Mat q k E.size) → Element E → ℕ → Type 0
IsClosedUnder E ideal x n = (j : ℕ) → j < n → IsClosedAt E ideal x (row j ideal)

-- The products of x and each of the first n rows are in the span; the products on both sides differ by members of the ideal.
abbrev pub IsMultipliedBy : {q : Gf} (E : Algebra q) {k : ℕ} (rows : Mat q k E.size) → Element E → ℕ → Type 0
IsMultipliedBy E rows x n = (j : ℕ) → j < n → IsInSpan rows (E.product x (row j rows))

abbrev pub CommutesWith : {q : Gf} (E : Algebra q) {n k : ℕ} (ring : Mat q n E.size) (ideal : Mat q k E.size) → Element E → ℕ → Type 0
CommutesWith E ring ideal x c = (j : ℕ) → j < c → IsCongruent ideal (E.product x (row j ring)) (E.product (row j ring) x)

-- The span has the products of its members.
abbrev pub HasProducts : {q : Gf} (E : Algebra q) {k : ℕ} (rows : Mat q k E.size) → Type 0
HasProducts E rows = (x y : Element E) → IsInSpan rows x → IsInSpan rows y → IsInSpan rows (E.product x y)
