-- Elements as rows of coefficients over a list of paths, a column for each path, and collections of rows. No definition of the quotient cites
-- this: rows are how the code finds out what the elements of a span are.
use Rattle.std.specs.Prelude.{ℕ, List, length, slice_index_or}
use Rattle.linear_algebra.specs.Field.{Gf}
use Rattle.linear_algebra.specs.Rows.{list_of}
use Rattle.quiver_paths.specs.declared.Path.{Path}
use Rattle.quiver_paths.specs.Path.{trivial_path}

-- the path of a column
unfoldable pub path_at : List Path → ℕ → Path
path_at columns j = slice_index_or columns j (trivial_path 0)

-- the coefficients of an element, column by column
unfoldable pub row_of : List Path → (Path → ℕ) → List ℕ
row_of columns x = list_of (length columns) (λ j. x (path_at columns j))

-- rows that are collected: over the field, with this number of columns, and room for this number of rows
pub record RowsView : Type 0 where
  pub field : Gf
  pub columns : ℕ
  pub room : ℕ
  pub rows : List (List ℕ)
