-- Rows that are written one behind the other, and the space of rows that elimination leaves.
use Rattle.std.specs.Prelude.{ℕ, ◌≤◌, ◌≡◌, ◌*◌, ◌/◌, ◌%◌, List, length, take}
use Rattle.linear_algebra.specs.Field.{Gf}
use Rattle.linear_algebra.specs.Matrix.{Mat}
use Rattle.linear_algebra.specs.Rank.{IsInSpan}
use Rattle.linear_algebra.specs.Rows.{entry}
use Rattle.local_checks.specs.Standing.{IsSpace, space}

-- the entries of rows of n numbers, row by row
abbrev pub row_entry : ℕ → List (List ℕ) → ℕ → ℕ
row_entry n rows e = entry rows (e / n) (e % n)

-- The first r rows and pivots are a space, the one that the rows of f span.
pub record IsSpaceOf {q : Gf} {m n : ℕ} (f : Mat q m n) (rows pivots : List ℕ) (r : ℕ) : Type 0 where
  pub few : r ≤ m
  pub count : length (take r pivots) ≡ r
  pub is_space : IsSpace q n (take (r * n) rows) (take r pivots)
  pub forth : IsInSpan (space q n (take (r * n) rows) (take r pivots)) f
  pub back : IsInSpan f (space q n (take (r * n) rows) (take r pivots))
