-- Elements of a ring that modulo an ideal are zero or have an inverse, among the combinations of rows.
use Rattle.std.specs.Prelude.{ℕ, ◌<◌, ◌≡◌, List, slice_index}
use Rattle.linear_algebra.specs.Field.{Gf}
use Rattle.linear_algebra.specs.Matrix.{Mat, Row, ◌·◌}
use Rattle.linear_algebra.specs.Rank.{IsInSpan}
use Rattle.local_modules.specs.Algebra.{Algebra, Element}
use Rattle.local_modules.specs.Subalgebra.{IsUnitOf}

abbrev pub IsZeroOrUnitOf : {q : Gf} (E : Algebra q) {n k : ℕ} (ring : Mat q n E.size) (ideal : Mat q k E.size) → Element E → Type 0
IsZeroOrUnitOf E ring ideal x = (IsInSpan ideal x → ⊥) → IsUnitOf E ring ideal x

-- the first k coordinates
abbrev pub BeginsWith : {q : Gf} {b : ℕ} (digits : List ℕ) (k : ℕ) → Row q b → Type 0
BeginsWith digits k c = (j : ℕ) → j < k → c.at 0 j ≡ slice_index digits j

-- the combinations of rows whose coordinates begin with k given ones, and of these those whose next coordinate is below a bound
abbrev pub AreZeroOrUnits : {q : Gf} (E : Algebra q) {n l b : ℕ} (ring : Mat q n E.size) (ideal : Mat q l E.size) (some : Mat q b E.size) (digits : List ℕ) (k : ℕ) → Type 0
AreZeroOrUnits {q} E {n} {l} {b} ring ideal some digits k = (c : Row q b) → BeginsWith digits k c → IsZeroOrUnitOf E ring ideal (c · some)

abbrev pub AreZeroOrUnitsBelow : {q : Gf} (E : Algebra q) {n l b : ℕ} (ring : Mat q n E.size) (ideal : Mat q l E.size) (some : Mat q b E.size) (digits : List ℕ) (k bound : ℕ) → Type 0
AreZeroOrUnitsBelow {q} E {n} {l} {b} ring ideal some digits k bound = (c : Row q b) → BeginsWith digits k c → c.at 0 k < bound → IsZeroOrUnitOf E ring ideal (c · some)
