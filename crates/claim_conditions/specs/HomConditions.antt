-- The conditions on a basis of homomorphisms.
use Rattle.std.specs.Prelude.{ℕ, ◌≡◌, ◌<◌, ◌+◌, List, [], ◌∷◌}
use Rattle.linear_algebra.specs.Matrix.{zeros}
use Rattle.linear_algebra.specs.LinearMaps.{matrix_of}
use Rattle.linear_algebra.specs.Parts.{row}
use Rattle.linear_algebra.specs.RowForm.{IsRowReduced}
use Rattle.linear_algebra.specs.Ranks.{rank}
use Rattle.fp_linear.specs.Matrix.{PlainMatrix}
use Rattle.path_algebra.specs.declared.Header.{Header}
use Rattle.representations.specs.HomSpace.{unknowns, defects, equations}
use Rattle.module_types.specs.declared.Module.{Module}
use Rattle.module_types.specs.Readings.{read, read_beside}
use Rattle.claim_conditions.specs.declared.Clause.TheVariants as clause
use Rattle.claim_conditions.specs.Conditions.{Condition, ◌asks◌}
use Rattle.claim_conditions.specs.Homs.{hom_rows}

-- `objects`: one side
abbrev pub HaveOneSide : Module → Module → Type 0
HaveOneSide a b = a.side ≡ b.side

-- `reduced`: the rows are in reduced row form
abbrev pub AreRowsReduced : Header → Module → Module → PlainMatrix → Type 0
AreRowsReduced h a b rows = (pivot : ℕ → ℕ) × IsRowReduced (hom_rows h a b rows) pivot

-- `homs`: each row is a homomorphism
abbrev pub AreHoms : Header → Module → Module → PlainMatrix → Type 0
AreHoms h a b rows = (i : ℕ) → i < rows.row_count
    → defects (read h a) (read_beside h a b) (row i (hom_rows h a b rows)) ≡ zeros h.field 1 (equations (read h a) (read_beside h a b))

-- `all`: their number and the rank of the equations that say of a row that it commutes with the arrows add to the number of unknowns
abbrev pub AreAllHoms : Header → Module → Module → PlainMatrix → Type 0
AreAllHoms h a b rows = rows.row_count + rank (matrix_of (defects (read h a) (read_beside h a b))) ≡ unknowns (read h a) (read_beside h a b)

abbrev pub hom_conditions : Header → Module → Module → PlainMatrix → List Condition
hom_conditions h a b rows =
    (clause.Objects asks HaveOneSide a b)
    ∷ (clause.Reduced asks AreRowsReduced h a b rows)
    ∷ (clause.Homs asks AreHoms h a b rows)
    ∷ (clause.All asks AreAllHoms h a b rows)
    ∷ []
