-- Bases in reduced row form that stand in slices, and coordinates over them. (Any textbook of linear algebra.)
use Rattle.std.specs.Prelude.{ℕ, ◌<◌, ◌≡◌, ◌≢◌, ◌+◌, ◌*◌, List, slice_index}
use Rattle.linear_algebra.specs.Field.{Gf, mul}
use Rattle.linear_algebra.specs.Sums.{sum_to}
use Rattle.linear_algebra.specs.Matrix.{Mat, delta, join}
use Rattle.fp_linear.specs.Slices.{cell}

-- the first k rows of a matrix with n columns in a slice, each with a row of the identity matrix of m rows to its right
pub record AreExtended (m n k : ℕ) (s wide : List ℕ) : Type 0 where
  pub at : (i j : ℕ) → i < k → j < n + m → cell (n + m) wide i j ≡ join n (λ j. cell n s i j) (delta i) j

-- the first number that is not zero, of those from a place on
pub record IsFirstNonzero (s : List ℕ) (start n p : ℕ) : Type 0 where
  pub inside : p < n
  pub nonzero : slice_index s (start + p) ≢ 0
  pub before : (j : ℕ) → j < p → slice_index s (start + j) ≡ 0

-- the places of the first k rows of n numbers
pub record ArePlaces (n k : ℕ) (s places : List ℕ) : Type 0 where
  pub at : (i : ℕ) → i < k → IsFirstNonzero s (i * n) n (slice_index places i)

-- a slice holds the rows of a matrix, another its pivots
pub record HoldsBasis {q : Gf} {m n : ℕ} (b : Mat q m n) (pivot : ℕ → ℕ) (s marks : List ℕ) : Type 0 where
  pub rows : (i j : ℕ) → i < m → j < n → cell n s i j ≡ b.at i j
  pub places : (i : ℕ) → i < m → slice_index marks i ≡ pivot i

-- entry j of the first m numbers times m rows of n numbers; these make the row again
abbrev pub combined_entry : Gf → (m n : ℕ) → List ℕ → List ℕ → ℕ → ℕ
combined_entry q m n x s j = sum_to q m (λ i. mul q (slice_index x i) (slice_index s (i * n + j)))

pub record GivesBack (q : Gf) (m n : ℕ) (x s y : List ℕ) (k : ℕ) : Type 0 where
  pub at : (j : ℕ) → j < k → combined_entry q m n x s j ≡ slice_index y j

-- the numbers of a row at the places
pub record AreAtPlaces (k : ℕ) (places y x : List ℕ) : Type 0 where
  pub at : (i : ℕ) → i < k → slice_index x i ≡ slice_index y (slice_index places i)

-- the row of the first n numbers of a slice takes a column to zero
pub record RowKilled (q : Gf) (n : ℕ) (y : List ℕ) (x : ℕ → ℕ) : Type 0 where
  pub killed : sum_to q n (λ t. mul q (slice_index y t) (x t)) ≡ 0

-- the pivots of a unit matrix
abbrev pub same_place : ℕ → ℕ
same_place i = i

-- the first k rows of the unit matrix with n rows
pub record AreUnitRows (n k : ℕ) (s : List ℕ) : Type 0 where
  pub at : (i j : ℕ) → i < k → j < n → slice_index s (i * n + j) ≡ delta i j
