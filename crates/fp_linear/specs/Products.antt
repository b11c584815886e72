-- The state of a product of matrices, and of a transposition.
use Rattle.std.specs.Prelude.{ℕ, ◌<◌, ◌≤◌, ◌≡◌, ◌≢◌, ◌+◌, if◌then◌else◌, ◌==◌}
use Rattle.linear_algebra.specs.Field.{Gf, mul}
use Rattle.linear_algebra.specs.Sums.{sum_to}

-- The first i rows of f, of n entries each, are those of the product of the matrix with k columns and the entries a and the one with the entries e.
pub record HasProductRows (q : Gf) (k n i : ℕ) (a e f : ℕ → ℕ → ℕ) : Type 0 where
  pub done : (t j : ℕ) → t < i → j < n → f t j ≡ sum_to q k (λ u. mul q (a t u) (e u j))

-- Of f, which has `width` columns, the first n entries of a column are h 0, h 1, ..; the other columns stay.
pub record HasColumn (width n column : ℕ) (h : ℕ → ℕ) (f g : ℕ → ℕ → ℕ) : Type 0 where
  pub written : (j : ℕ) → j < n → g j column ≡ h j
  pub kept : (j t : ℕ) → t < width → t ≢ column → g j t ≡ f j t

-- Of f, which has `width` columns, the i columns from `first` on are rows of e, of n entries each; the columns before stay.
pub record HasColumns (n first i : ℕ) (e f g : ℕ → ℕ → ℕ) : Type 0 where
  pub done : (t j : ℕ) → t < i → j < n → g j (first + t) ≡ e t j
  pub kept : (t j : ℕ) → t < first → g j t ≡ f j t

-- The first k rows of f begin with the entries of the rows of e from `first` on, from column `from` on, `count` of each; the other columns stay.
pub record HasBlock (n count k first from : ℕ) (e f g : ℕ → ℕ → ℕ) : Type 0 where
  pub done : (i j : ℕ) → i < k → j < count → g i j ≡ e (first + i) (from + j)
  pub others : (i j : ℕ) → count ≤ j → j < n → g i j ≡ f i j

-- From column c on the first k of m rows are those of the identity, the others are zero; the first c columns stay.
pub record HasUnits (m c k : ℕ) (e f : ℕ → ℕ → ℕ) : Type 0 where
  pub left : (i j : ℕ) → j < c → f i j ≡ e i j
  pub done : (i j : ℕ) → i < k → j < m → f i (c + j) ≡ (if i == j then 1 else 0)
  pub rest : (i j : ℕ) → k ≤ i → i < m → j < m → f i (c + j) ≡ 0
