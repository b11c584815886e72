-- Families of matrices as one long row, and the solutions of linear equations.
use Rattle.std.specs.Prelude.{ℕ, ◌*◌, ◌≡◌}
use Rattle.linear_algebra.specs.Field.{Gf}
use Rattle.linear_algebra.specs.Matrix.{Mat, Row, zeros, ◌·◌}
use Rattle.linear_algebra.specs.Rank.{IsInSpan}
use Rattle.linear_algebra.specs.RowForm.{IsRowReduced}
use Rattle.linear_algebra.specs.LinearMaps.{flatten, unflatten}
use Rattle.linear_algebra.specs.BlockFamilies.{total, beside_all, column_block}

-- The matrices f 0, f 1, .., f (k − 1), each row by row, one after another.
unfoldable pub flatten_all : {q : Gf} (k : ℕ) (rows columns : ℕ → ℕ) → ((v : ℕ) → Mat q (rows v) (columns v)) → Row q (total k (λ v. rows v * columns v))
flatten_all k rows columns f = beside_all k (λ v. rows v * columns v) (λ v. flatten (f v))

-- Matrix v of such a row.
unfoldable pub unflatten_all : {q : Gf} (k : ℕ) (rows columns : ℕ → ℕ) → Row q (total k (λ v. rows v * columns v)) → (v : ℕ) → Mat q (rows v) (columns v)
unflatten_all k rows columns x v = unflatten (rows v) (columns v) (column_block k (λ v. rows v * columns v) v x)

-- A basis in reduced row form of the rows that a function takes to zero: its rows are such, and each such row is a combination of them, by
-- exactly one row of coefficients.
pub record SolutionBasis {q : Gf} {m n : ℕ} (f : Row q m → Row q n) : Type 0 where
  pub size : ℕ
  pub basis : Mat q size m
  pub pivot : ℕ → ℕ
  pub reduced : IsRowReduced basis pivot
  pub solves : (c : Row q size) → f (c · basis) ≡ zeros q 1 n
  pub spans : (x : Row q m) → f x ≡ zeros q 1 n → IsInSpan basis x
  pub once : (c d : Row q size) → c · basis ≡ d · basis → c ≡ d
