-- Reduced row form of matrices, with its pivot columns.
use Rattle.std.specs.Prelude.{ℕ, ◌<◌, ◌≡◌, ◌≢◌}
use Rattle.linear_algebra.specs.Field.{Gf}
use Rattle.linear_algebra.specs.Matrix.{Mat, zeros, made, delta, ◌·◌}
use Rattle.linear_algebra.specs.Rank.{IsInSpan}

-- In row i the first entry that is not zero is 1 and stands in column pivot i; it stands further right than those above, and its column is
-- otherwise zero. No row is zero.
pub record IsRowReduced {q : Gf} {m n : ℕ} (a : Mat q m n) (pivot : ℕ → ℕ) : Type 0 where
  pub inside : (i : ℕ) → i < m → pivot i < n
  pub one : (i : ℕ) → i < m → a.at i (pivot i) ≡ 1
  pub before : (i j : ℕ) → i < m → j < pivot i → a.at i j ≡ 0
  pub further : (i k : ℕ) → i < k → k < m → pivot i < pivot k
  pub cleared : (i k : ℕ) → i < m → k < m → k ≢ i → a.at k (pivot i) ≡ 0

-- A matrix in reduced row form whose rows span the same as those of f.
pub record ReducedForm {q : Gf} {m n : ℕ} (f : Mat q m n) : Type 0 where
  pub size : ℕ
  pub rows : Mat q size n
  pub pivot : ℕ → ℕ
  pub reduced : IsRowReduced rows pivot
  pub spans : IsInSpan rows f
  pub spanned : IsInSpan f rows

-- The unit columns at the places pivot 0, pivot 1, ..: a row times this matrix is the row of its entries at those places.
unfoldable pub selector : (q : Gf) (n m : ℕ) → (ℕ → ℕ) → Mat q n m
selector q n m pivot = made q n m (λ j i. delta j (pivot i))

-- Row place i is the unit row i, for each column i, and below it column i is zero.
pub record IsCoReduced {q : Gf} {n c : ℕ} (g : Mat q n c) (place : ℕ → ℕ) : Type 0 where
  pub inside : (i : ℕ) → i < c → place i < n
  pub unit : (i k : ℕ) → i < c → k < c → g.at (place i) k ≡ delta i k
  pub further : (i k : ℕ) → i < k → k < c → place i < place k
  pub after : (i r : ℕ) → i < c → place i < r → g.at r i ≡ 0

-- A co-reduced matrix that takes to zero exactly the rows in the span of f.
pub record CoReducedForm {q : Gf} {m n : ℕ} (f : Mat q m n) : Type 0 where
  pub size : ℕ
  pub projection : Mat q n size
  pub place : ℕ → ℕ
  pub coreduced : IsCoReduced projection place
  pub kills : f · projection ≡ zeros q m size
  pub spans : {k : ℕ} (x : Mat q k n) → x · projection ≡ zeros q k size → IsInSpan f x
