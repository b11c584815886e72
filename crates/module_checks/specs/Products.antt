-- Products of matrices whose entries are given as lists, entry by entry.
use Rattle.std.specs.Prelude.{ℕ, ◌<◌, ◌≡◌}
use Rattle.linear_algebra.specs.Field.{Gf, mul}
use Rattle.linear_algebra.specs.Sums.{sum_to}
use Rattle.linear_algebra.specs.Rows.{entry}
use Rattle.fp_linear.specs.Matrix.{PlainMatrix}

-- what the first n columns of a and rows of b give at row i and column j of the product
abbrev pub product_entry : Gf → ℕ → PlainMatrix → PlainMatrix → ℕ → ℕ → ℕ
product_entry q n a b i j = sum_to q n (λ t. mul q (entry a.rows i t) (entry b.rows t j))

-- the products a · b and c · d agree at the first n places of row i; in the first m rows
pub record AgreeInRow (q : Gf) (a b c d : PlainMatrix) (i n : ℕ) : Type 0 where
  pub at : (j : ℕ) → j < n → product_entry q a.col_count a b i j ≡ product_entry q c.col_count c d i j

pub record AgreeInRows (q : Gf) (a b c d : PlainMatrix) (m : ℕ) : Type 0 where
  pub at : (i : ℕ) → i < m → AgreeInRow q a b c d i b.col_count
