-- Rows and matrices that stand in lent memory, and spaces of rows: rows in reduced row form with the places of their pivots.
use Rattle.std.specs.Prelude.{ℕ, ◌≡◌, ◌*◌, List, length}
use Rattle.linear_algebra.specs.Field.{Gf}
use Rattle.linear_algebra.specs.Matrix.{Mat}
use Rattle.linear_algebra.specs.Rows.{rows_of}
use Rattle.linear_algebra.specs.Reduced.{IsReduced, pivots_of}
use Rattle.linear_algebra.specs.Typed.{as_mat}
use Rattle.fp_linear.specs.Slices.{AreElements}

-- m rows of n numbers, one after another
abbrev pub standing : (q : Gf) (m n : ℕ) → List ℕ → Mat q m n
standing q m n s = as_mat q m n (rows_of m n s)

-- The rows of n elements are in reduced row form, as many as there are pivots, which are theirs.
pub record IsSpace (q : Gf) (n : ℕ) (rows pivots : List ℕ) : Type 0 where
  pub count : length rows ≡ length pivots * n
  pub elements : AreElements q rows
  pub reduced : IsReduced n (rows_of (length pivots) n rows)
  pub places : pivots ≡ pivots_of (rows_of (length pivots) n rows)

-- these rows
abbrev pub space : (q : Gf) (n : ℕ) (rows pivots : List ℕ) → Mat q (length pivots) n
space q n rows pivots = standing q (length pivots) n rows
