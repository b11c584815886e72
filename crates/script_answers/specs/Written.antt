-- Matrices as a script writes them, at arrows and at vertices: what is not written is zero.
use Rattle.std.specs.Prelude.{ℕ, suc, Bool, true, nat_eq, ◌&&◌, ◌||◌, not, List, [], ◌∷◌, map, length, find, slice_index_or, Option, Some, None}
use Rattle.std.specs.List.{list_all}
use Rattle.std.specs.Cmp.Lexicographic.{pointwise}
use Rattle.linear_algebra.specs.Field.{Gf}
use Rattle.linear_algebra.specs.Rows.{list_of}
use Rattle.fp_linear.specs.Matrix.{PlainMatrix, plain, zero_rows}
use Rattle.quiver_paths.specs.declared.Arrow.{Arrow}
use Rattle.quiver_paths.specs.Quiver.{source, target}
use Rattle.bound_algebra.specs.TypedPaths.{quiver_of}
use Rattle.path_algebra.specs.declared.Header.{Header}
use Rattle.script_types.specs.declared.AtLine.{AtLine}
use Rattle.module_types.specs.declared.Module.{Module}
use Rattle.module_types.specs.declared.Side.TheVariants.{Right}
use Rattle.module_types.specs.Readings.{dim_at}
use Rattle.report_types.specs.WordDimensions.{dim_of}

-- the name of arrow a, of vertex v; the names of all
abbrev pub arrow_names : Header → List (List ℕ)
arrow_names h = map (λ (a : Arrow). a.name) h.quiver.arrows

abbrev pub vertex_names : Header → List (List ℕ)
vertex_names h = h.quiver.vertices

abbrev pub line_names : List AtLine → List (List ℕ)
line_names lines = map (λ (l : AtLine). l.name) lines

-- the rows at a name: those of the first line with it
abbrev pub line_rows : Option AtLine → List (List ℕ)
line_rows None = []
line_rows (Some l) = l.rows

abbrev pub rows_at_name : List AtLine → List ℕ → List (List ℕ)
rows_at_name lines name = line_rows (find (λ (l : AtLine). pointwise nat_eq name l.name) lines)

-- Rows as a matrix of m rows and n columns: without rows it is zero. What has an entry fits where it has m rows of n entries each; no rows fit where there
-- is no place for an entry.
abbrev pub matrix_or_zero : Gf → ℕ → ℕ → List (List ℕ) → PlainMatrix
matrix_or_zero q m n [] = plain q m n (zero_rows m n)
matrix_or_zero q m n (row ∷ rows) = plain q m n (row ∷ rows)

abbrev pub rows_fit : ℕ → ℕ → List (List ℕ) → Bool
rows_fit m n [] = nat_eq m 0 || nat_eq n 0
rows_fit m n (row ∷ rows) = not (nat_eq m 0) && not (nat_eq n 0) && nat_eq (suc (length rows)) m && list_all (λ (r : List ℕ). nat_eq (length r) n) (row ∷ rows)

-- the line fits at each of the names that it has, the first of which has number i, where matrix i has these counts; every line does
abbrev pub line_fits : (ℕ → ℕ) → (ℕ → ℕ) → AtLine → ℕ → List (List ℕ) → Bool
line_fits m n l i [] = true
line_fits m n l i (name ∷ names) = (not (pointwise nat_eq name l.name) || rows_fit (m i) (n i) l.rows) && line_fits m n l (suc i) names

abbrev pub lines_fit : List (List ℕ) → (ℕ → ℕ) → (ℕ → ℕ) → List AtLine → Bool
lines_fit names m n lines = list_all (λ (l : AtLine). line_fits m n l 0 names) lines

-- the matrices at the names, in their order
abbrev pub matrices_at : Gf → List (List ℕ) → (ℕ → ℕ) → (ℕ → ℕ) → List AtLine → List PlainMatrix
matrices_at q names m n lines = list_of (length names) (λ i. matrix_or_zero q (m i) (n i) (rows_at_name lines (slice_index_or names i [])))

-- the counts of rows and of columns at an arrow of a right module with these dimensions
abbrev pub rows_from : Header → List ℕ → ℕ → ℕ
rows_from h dims a = dim_at (quiver_of h.quiver) dims (source h.quiver a)

abbrev pub columns_to : Header → List ℕ → ℕ → ℕ
columns_to h dims a = dim_at (quiver_of h.quiver) dims (target h.quiver a)

-- the right module with these dimensions at the vertices, and these lines at arrows
abbrev pub rep_written : Header → List ℕ → List AtLine → Module
rep_written h dims lines = record { side = Right; dims = dims; matrices = matrices_at h.field (arrow_names h) (rows_from h dims) (columns_to h dims) lines }

-- the matrices of a map from a to b with these lines at vertices
abbrev pub map_written : Header → Module → Module → List AtLine → List PlainMatrix
map_written h a b lines = matrices_at h.field (vertex_names h) (dim_of h a) (dim_of h b) lines
