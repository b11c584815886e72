-- The columns of a matrix in reduced row form that are no pivots, and the rows that they give, to which its rows are orthogonal.
-- (Any textbook of linear algebra.)
use Rattle.std.specs.Prelude.{ℕ, ◌<◌, ◌≤◌, ◌≡◌, ◌≢◌, ◌⊎◌, ◌*◌, List, length, slice_index}
use Rattle.linear_algebra.specs.Field.{Gf}
use Rattle.linear_algebra.specs.Matrix.{Mat, Row, zeros, ◌·◌, transpose}
use Rattle.linear_algebra.specs.Rank.{IsInSpan}
use Rattle.linear_algebra.specs.RowForm.{IsCoReduced}
use Rattle.linear_algebra.specs.Rows.{list_of}
use Rattle.linear_algebra.specs.Separators.{IsFunctionalAt}
use Rattle.fp_linear.specs.Slices.{cell, AreElements}
use Rattle.fp_linear.specs.Elimination.{IsFunctionalUpTo}

-- The columns below n that are not among the pivots, in ascending order.
pub record AreFree (n : ℕ) (pivots free : List ℕ) : Type 0 where
  pub inside : (j : ℕ) → j < length free → slice_index free j < n
  pub further : (i j : ℕ) → i < j → j < length free → slice_index free i < slice_index free j
  pub apart : (i j : ℕ) → i < length pivots → j < length free → slice_index pivots i ≢ slice_index free j
  pub each : (t : ℕ) → t < n → ((i : ℕ) × (i < length pivots) × (slice_index pivots i ≡ t)) ⊎ ((j : ℕ) × (j < length free) × (slice_index free j ≡ t))

-- The rows of n numbers that stand in a slice are those of the free columns, as many as there are.
pub record AreFunctionals (q : Gf) (n : ℕ) (form : List (List ℕ)) (free s : List ℕ) : Type 0 where
  pub each : (j : ℕ) → j < length free → IsFunctionalAt q n form (slice_index free j) (list_of n (cell n s j))

-- The rows of `basis` are a basis of the rows to which those of f are orthogonal; its columns are the co-reduced projection onto the quotient by the span of f.
pub record IsOrthogonalBasis {q : Gf} {k m n : ℕ} (f : Mat q m n) (basis : Mat q k n) : Type 0 where
  pub place : ℕ → ℕ
  pub coreduced : IsCoReduced (transpose basis) place
  pub orthogonal : f · transpose basis ≡ zeros q m k
  pub spans : (x : Row q n) → x · transpose f ≡ zeros q 1 m → IsInSpan basis x
  pub back : (x : Row q n) → x · transpose basis ≡ zeros q 1 k → IsInSpan f x

-- The row of column c, as far as the first k pivots tell it.
pub record IsFunctionalSoFar (q : Gf) (n c k : ℕ) (form : List (List ℕ)) (s : List ℕ) : Type 0 where
  pub told : IsFunctionalUpTo q n c k form s
  pub elements : AreElements q s

-- The first k rows of n numbers in the slice are those of the free columns, and behind them are zeros.
pub record HasFunctionals (q : Gf) (n k : ℕ) (form : List (List ℕ)) (free s : List ℕ) : Type 0 where
  pub done : (j : ℕ) → j < k → IsFunctionalAt q n form (slice_index free j) (list_of n (cell n s j))
  pub rest : (i : ℕ) → k * n ≤ i → slice_index s i ≡ 0
  pub elements : AreElements q s
