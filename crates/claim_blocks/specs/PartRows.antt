-- Rows of a matrix that are read one by one.
use Rattle.std.specs.Prelude.{ℕ, ◌≡◌, ◌<◌, ◌≤◌, ◌*◌, List, [], ◌∷◌, ◌++◌, length}
use Rattle.linear_algebra.specs.Field.{Gf}
use Rattle.linear_algebra.specs.Rows.{IsRow, rows_of}
use Rattle.fp_linear.specs.Matrix.{PlainMatrix, plain, most_entries}
use Rattle.fp_linear.specs.Slices.{AreElements}
use Rattle.object_lines.specs.Spelling.{row_line}
use Rattle.claim_blocks.specs.Taking.{Takes}

-- so many rows of a length are wanted; those that have been read
pub record PartRows : Type 0 where
  pub field : Gf
  pub width : ℕ
  pub wanted : ℕ
  pub rows : List (List ℕ)

abbrev pub no_rows : Gf → ℕ → ℕ → PartRows
no_rows q width wanted = record { field = q; width = width; wanted = wanted; rows = [] }

-- the rows as a matrix
abbrev pub matrix_of : PartRows → PlainMatrix
matrix_of r = plain r.field (length r.rows) r.width r.rows

-- a row more
pub record FitsRow (r : PartRows) (row : List ℕ) : Type 0 where
  pub left : length r.rows < r.wanted
  pub is_row : IsRow r.field r.width row

abbrev pub with_row : PartRows → List ℕ → PartRows
with_row r row = record r { rows = r.rows ++ row ∷ [] }

abbrev pub RowStep : PartRows → List (List ℕ) → PartRows → Type 0
RowStep r tokens next = Takes (FitsRow r) row_line (with_row r) tokens next

-- what is kept of rows as their entries one behind the other
pub record HoldsRows (q : Gf) (width wanted read : ℕ) (entries : List ℕ) : Type 0 where
  pub counted : length entries ≡ read * width
  pub small : AreElements q entries
  pub few : read ≤ wanted
  pub fits : wanted * width ≤ most_entries

abbrev pub rows_from : Gf → ℕ → ℕ → ℕ → List ℕ → PartRows
rows_from q width wanted read entries = record { field = q; width = width; wanted = wanted; rows = rows_of read width entries }
