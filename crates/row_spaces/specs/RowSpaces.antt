-- Spaces of rows in canonical form: a space by the basis that is in reduced row form, the quotient by it by the projection that is co-reduced. Each is
-- determined by the space. (Any textbook of linear algebra.)
use Rattle.std.specs.Prelude.{ℕ, ◌≡◌, ◌<◌, List, length, slice_index}
use Rattle.linear_algebra.specs.Field.{Gf}
use Rattle.linear_algebra.specs.Matrix.{Mat, Row, zeros, ◌·◌}
use Rattle.linear_algebra.specs.Rank.{IsInSpan}
use Rattle.linear_algebra.specs.RowForm.{IsRowReduced, IsCoReduced}
use Rattle.linear_algebra.specs.Typed.{as_mat}
use Rattle.fp_linear.specs.Matrix.{PlainMatrix}

-- a `Matrix` as a matrix of its size
abbrev pub typed : (m : PlainMatrix) → Mat m.field m.row_count m.col_count
typed m = as_mat m.field m.row_count m.col_count m.rows

-- Some columns are the pivots of a matrix in reduced row form.
abbrev pub IsReducedMatrix : {q : Gf} {m n : ℕ} → Mat q m n → Type 0
IsReducedMatrix basis = (pivot : ℕ → ℕ) × IsRowReduced basis pivot

-- The rows of `basis` are the basis in reduced row form of the span of the rows of f.
pub record IsRowFormOf {q : Gf} {k m n : ℕ} (f : Mat q m n) (basis : Mat q k n) : Type 0 where
  pub reduced : IsReducedMatrix basis
  pub spans : IsInSpan basis f
  pub spanned : IsInSpan f basis

-- The rows of `basis` are the basis in reduced row form of the rows x with x · f = 0.
pub record IsKernelBasis {q : Gf} {k m n : ℕ} (f : Mat q m n) (basis : Mat q k m) : Type 0 where
  pub reduced : IsReducedMatrix basis
  pub kills : basis · f ≡ zeros q k n
  pub spans : (x : Row q m) → x · f ≡ zeros q 1 n → IsInSpan basis x

-- The co-reduced matrix `onto` is the projection onto the quotient by the span of the rows of f: it takes to zero just the rows in that span.
pub record IsQuotientBy {q : Gf} {c m n : ℕ} (f : Mat q m n) (onto : Mat q n c) : Type 0 where
  pub place : ℕ → ℕ
  pub coreduced : IsCoReduced onto place
  pub kills : f · onto ≡ zeros q m c
  pub spans : (x : Row q n) → x · onto ≡ zeros q 1 c → IsInSpan f x

-- The rows of c are the coefficients by which the rows of y are combinations of the rows of `basis`, and no others are.
pub record AreCoordinates {q : Gf} {k m n : ℕ} (basis : Mat q m n) (y : Mat q k n) (c : Mat q k m) : Type 0 where
  pub combine : c · basis ≡ y
  pub once : (d : Mat q k m) → d · basis ≡ y → d ≡ c

-- The list has the places of the first k columns of the matrix, where it is co-reduced.
pub record HasPlaces (m : PlainMatrix) (k : ℕ) (places : List ℕ) : Type 0 where
  pub count : length places ≡ k
  pub at : (place : ℕ → ℕ) → IsCoReduced (typed m) place → (j : ℕ) → j < k → slice_index places j ≡ place j

-- The matrix c after the projection `onto` is y, and no other is.
pub record IsFactor {q : Gf} {k m n : ℕ} (onto : Mat q n m) (y : Mat q n k) (c : Mat q m k) : Type 0 where
  pub compose : onto · c ≡ y
  pub once : (d : Mat q m k) → onto · d ≡ y → d ≡ c
