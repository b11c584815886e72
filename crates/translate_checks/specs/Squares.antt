-- Squares of maps of which one side is written row by row, or column by column. (Assem, Simson, Skowroński, volume 1, chapter III, 1.)
use Rattle.std.specs.Prelude.{ℕ, ◌≡◌, ◌<◌, List}
use Rattle.linear_algebra.specs.Field.{Gf}
use Rattle.linear_algebra.specs.Matrix.{Mat}
use Rattle.fp_linear.specs.Matrix.{PlainMatrix}
use Rattle.module_checks.specs.Products.{product_entry}
use Rattle.translate_checks.specs.Dots.{row_dot, column_dot}

-- column j of x · t is what the rows of s make of the numbers, in the first n rows
pub record AgreeInColumn (q : Gf) (x t s : PlainMatrix) (j : ℕ) (values : List ℕ) (n : ℕ) : Type 0 where
  pub at : (r : ℕ) → r < n → product_entry q x.col_count x t r j ≡ row_dot q s.col_count s r values 0

-- what the numbers make of the columns of t is row j of s · y, in the first n columns
pub record AgreeInRow (q : Gf) (values : List ℕ) (t s y : PlainMatrix) (j n : ℕ) : Type 0 where
  pub at : (c : ℕ) → c < n → column_dot q t.row_count values 0 t c ≡ product_entry q s.col_count s y j c

-- two matrices agree in the first n columns; in the first n rows
pub record AgreeOnColumns {q : Gf} {l m : ℕ} (f g : Mat q l m) (n : ℕ) : Type 0 where
  pub at : (r j : ℕ) → r < l → j < n → f.at r j ≡ g.at r j

pub record AgreeOnRows {q : Gf} {l m : ℕ} (f g : Mat q l m) (n : ℕ) : Type 0 where
  pub at : (r j : ℕ) → r < n → j < m → f.at r j ≡ g.at r j
