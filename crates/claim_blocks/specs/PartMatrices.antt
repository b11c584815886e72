-- Matrices at the vertices that are read one by one; those without entries fill in by themselves.
use Rattle.std.specs.Prelude.{ℕ, ◌≡◌, ◌≢◌, ◌<◌, ◌*◌, List, [], ◌∷◌, ◌++◌, length, slice_index}
use Rattle.linear_algebra.specs.Field.{Gf}
use Rattle.fp_linear.specs.Matrix.{PlainMatrix}
use Rattle.quiver_paths.specs.Quiver.{vertex_count}
use Rattle.path_algebra.specs.declared.Header.{Header}
use Rattle.header_text.specs.Spelling.{vertex_name}
use Rattle.module_types.specs.Shapes.{HasShape}
use Rattle.object_lines.specs.Spelling.{at_line}
use Rattle.claim_blocks.specs.declared.part_matrices.PartMatrices.{PartMatrices}
use Rattle.claim_blocks.specs.Matrices.{filled}
use Rattle.claim_blocks.specs.Taking.{Takes}

-- with the matrices without entries that come next
abbrev pub filled_part : PartMatrices → PartMatrices
filled_part m = record m { matrices = filled m.field (slice_index m.rows) (slice_index m.columns) (length m.rows) m.matrices }

-- before the first line: matrices with rows and columns of these counts
abbrev pub no_matrices : Gf → (rows columns : List ℕ) → PartMatrices
no_matrices q rows columns = filled_part record { field = q; rows = rows; columns = columns; matrices = [] }

-- a matrix with an entry, of the rows and columns that are next
pub record FitsMatrix (h : Header) (m : PartMatrices) (x : PlainMatrix) : Type 0 where
  pub inside : length m.matrices < vertex_count h.quiver
  pub left : length m.matrices < length m.rows
  pub shape : HasShape m.field (slice_index m.rows (length m.matrices)) (slice_index m.columns (length m.matrices)) x
  pub entries : x.row_count * x.col_count ≢ 0

abbrev pub with_matrix : PartMatrices → PlainMatrix → PartMatrices
with_matrix m x = filled_part (record m { matrices = m.matrices ++ x ∷ [] })

-- the line of the matrix that is next
abbrev pub next_line : Header → PartMatrices → PlainMatrix → List (List ℕ)
next_line h m = at_line (vertex_name h.quiver (length m.matrices))

-- a line more
abbrev pub MatrixStep : Header → PartMatrices → List (List ℕ) → PartMatrices → Type 0
MatrixStep h m tokens next = Takes (FitsMatrix h m) (next_line h m) (with_matrix m) tokens next

-- no matrix is left
abbrev pub IsWholeMatrices : PartMatrices → Type 0
IsWholeMatrices m = length m.matrices ≡ length m.rows

-- so many matrices stand there, and those that are still to be added are among the ones from the start
pub record Filling (first now : PartMatrices) (i count : ℕ) : Type 0 where
  pub same : filled_part now ≡ filled_part first
  pub reached : length now.matrices ≡ i
  pub count_is : length now.rows ≡ count
