-- Rank, span, inverses. A matrix of m rows and n columns stands for the linear map from rows of length m to rows of length n that takes
-- x to x · f.
use Rattle.std.specs.Prelude.{ℕ, ◌+◌, ◌≡◌}
use Rattle.linear_algebra.specs.Field.{Gf}
use Rattle.linear_algebra.specs.Matrix.{Mat, Row, Column, zeros, one, ◌⊞◌, ◌·◌}

-- A rank factorisation: f is the product of a matrix that has a left inverse and a matrix that has a right inverse. The rows of
-- `basis` are a basis of the row space, those of `left` take f to them, and `size` is the rank of f.
pub record RankFactorisation {q : Gf} {m n : ℕ} (f : Mat q m n) : Type 0 where
  pub size : ℕ
  pub into : Mat q m size
  pub basis : Mat q size n
  pub left : Mat q size m
  pub right : Mat q n size
  pub product : into · basis ≡ f
  pub left_inverse : left · into ≡ one q size
  pub right_inverse : basis · right ≡ one q size

-- Each row of y is a combination of the rows of f; those of `by` are the coefficients.
pub record IsInSpan {q : Gf} {k m n : ℕ} (f : Mat q m n) (y : Mat q k n) : Type 0 where
  pub by : Mat q k m
  pub is : by · f ≡ y

-- Each column of b is a combination of the columns of f.
pub record IsInColumnSpan {q : Gf} {m n k : ℕ} (f : Mat q m n) (b : Mat q m k) : Type 0 where
  pub by : Mat q n k
  pub is : f · by ≡ b

-- A matrix that is undone on the right: its rows are linearly independent.
pub record HasRightInverse {q : Gf} {m n : ℕ} (f : Mat q m n) : Type 0 where
  pub inverse : Mat q n m
  pub is : f · inverse ≡ one q m

-- A matrix that is undone on the left: its rows span all rows.
pub record HasLeftInverse {q : Gf} {m n : ℕ} (f : Mat q m n) : Type 0 where
  pub inverse : Mat q n m
  pub is : inverse · f ≡ one q n

-- An invertible matrix.
pub record HasInverse {q : Gf} {m n : ℕ} (f : Mat q m n) : Type 0 where
  pub inverse : Mat q n m
  pub right : f · inverse ≡ one q m
  pub left : inverse · f ≡ one q n

-- Only the zero row is taken to zero; every row is reached.
abbrev pub IsInjective : {q : Gf} {m n : ℕ} → Mat q m n → Type 0
IsInjective {q} {m} {n} f = (x : Row q m) → x · f ≡ zeros q 1 n → x ≡ zeros q 1 m

abbrev pub IsSurjective : {q : Gf} {m n : ℕ} → Mat q m n → Type 0
IsSurjective {q} {m} {n} f = (y : Row q n) → IsInSpan f y

-- A column that is zero on the rows of f and 1 on the row y: y is not a combination of them.
pub record IsSeparate {q : Gf} {m n : ℕ} (f : Mat q m n) (y : Row q n) : Type 0 where
  pub functional : Column q n
  pub kills : f · functional ≡ zeros q m 1
  pub sees : y · functional ≡ one q 1

-- A row that f takes to zero, and that is 1 on the column b: b is not a combination of the columns of f.
pub record IsColumnSeparate {q : Gf} {m n : ℕ} (f : Mat q m n) (b : Column q m) : Type 0 where
  pub functional : Row q m
  pub kills : functional · f ≡ zeros q 1 n
  pub sees : functional · b ≡ one q 1

-- Kernel and cokernel of f, with all that splits them off: the rows of `kernel` are a basis of the rows that f takes to zero, and
-- x · cokernel is zero exactly where x is in the span of f.
pub record Complement {q : Gf} {m n : ℕ} (f : Mat q m n) : Type 0 where
  pub rank : RankFactorisation f
  pub nullity : ℕ
  pub kernel : Mat q nullity m
  pub retraction : Mat q m nullity
  pub kernel_kills : kernel · f ≡ zeros q nullity n
  pub kernel_retracts : kernel · retraction ≡ one q nullity
  pub rows_split : retraction · kernel ⊞ rank.into · rank.left ≡ one q m
  pub left_retracts : rank.left · retraction ≡ zeros q rank.size nullity
  pub kernel_into : kernel · rank.into ≡ zeros q nullity rank.size
  pub rank_nullity : nullity + rank.size ≡ m
  pub corank : ℕ
  pub cokernel : Mat q n corank
  pub section : Mat q corank n
  pub cokernel_kills : f · cokernel ≡ zeros q m corank
  pub section_splits : section · cokernel ≡ one q corank
  pub columns_split : cokernel · section ⊞ rank.right · rank.basis ≡ one q n
  pub section_right : section · rank.right ≡ zeros q corank rank.size
  pub basis_cokernel : rank.basis · cokernel ≡ zeros q rank.size corank
  pub rank_corank : rank.size + corank ≡ n

-- A combination of the rows of f that is zero, though not all its coefficients are.
pub record IsDependent {q : Gf} {m n : ℕ} (f : Mat q m n) : Type 0 where
  pub combination : Row q m
  pub kills : combination · f ≡ zeros q 1 n
  pub functional : Column q m
  pub sees : combination · functional ≡ one q 1

-- A subspace of the rows of length n, by a basis: rows that are linearly independent.
pub record Subspace (q : Gf) (n : ℕ) : Type 0 where
  pub size : ℕ
  pub basis : Mat q size n
  pub independent : HasRightInverse basis
