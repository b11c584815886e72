-- How many rows the matrices of a list have.
use Rattle.std.specs.Prelude.{ℕ, List, map, slice_index}
use Rattle.fp_linear.specs.Matrix.{PlainMatrix}

-- those of a matrix of the list
abbrev pub row_count_at : List PlainMatrix → ℕ → ℕ
row_count_at matrices i = slice_index (map (λ (m : PlainMatrix). m.row_count) matrices) i
