-- Lists of rows read as matrices, and matrices written as lists of rows. Numbers are taken modulo the order of the field, and places that a
-- list does not have are zero, so that every list of rows is read as a matrix of every size.
use Rattle.std.specs.Prelude.{ℕ, List, slice_index}
use Rattle.linear_algebra.specs.Field.{Gf}
use Rattle.linear_algebra.specs.Matrix.{Mat, Row, made}
use Rattle.linear_algebra.specs.Rows.{list_of, entry}

unfoldable pub as_mat : (q : Gf) (m n : ℕ) → List (List ℕ) → Mat q m n
as_mat q m n rows = made q m n (entry rows)

unfoldable pub as_row : (q : Gf) (n : ℕ) → List ℕ → Row q n
as_row q n x = made q 1 n (λ i j. slice_index x j)

unfoldable pub grid_of : {q : Gf} {m n : ℕ} → Mat q m n → List (List ℕ)
grid_of {q} {m} {n} a = list_of m (λ i. list_of n (a.at i))

unfoldable pub list_of_row : {q : Gf} {n : ℕ} → Row q n → List ℕ
list_of_row {q} {n} x = list_of n (x.at 0)
