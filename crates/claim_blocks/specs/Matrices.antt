-- Lists of matrices of which the lines name those with entries: the matrices without entries fill in by themselves.
use Rattle.std.specs.Prelude.{ℕ, zero, suc, ◌+◌, ◌*◌, ◌-◌, ◌==◌, List, [], ◌∷◌, ◌++◌, length, if◌then◌else◌}
use Rattle.linear_algebra.specs.Field.{Gf}
use Rattle.fp_linear.specs.Matrix.{PlainMatrix, plain, zero_rows}

-- the only matrix of so many rows and columns, where one of the two is none
abbrev pub empty_matrix : Gf → ℕ → ℕ → PlainMatrix
empty_matrix q m n = plain q m n (zero_rows m n)

module _ (q : Gf) (rows columns : ℕ → ℕ) where
  -- of at most n matrices from matrix i on, those before the first one with an entry
  abbrev pub empties : ℕ → ℕ → List PlainMatrix
  empties zero i = []
  empties (suc n) i = if rows i * columns i == 0 then empty_matrix q (rows i) (columns i) ∷ empties n (i + 1) else []

  -- some matrices, and those without entries that come next; of at most so many
  abbrev pub filled : ℕ → List PlainMatrix → List PlainMatrix
  filled count ms = ms ++ empties (count - length ms) (length ms)
