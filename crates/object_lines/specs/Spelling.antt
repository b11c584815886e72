-- How the lines of modules, maps, matrices, rows and terms are spelled: the tokens of each.
use Rattle.std.specs.Prelude.{ℕ, ◌+◌, List, [], ◌∷◌, ◌++◌, ◌&&◌, Bool, codes, decimal, map, length, nat_lt, if◌then◌else◌}
use Rattle.fp_linear.specs.Matrix.{PlainMatrix}
use Rattle.quiver_paths.specs.declared.Quiver.{Quiver}
use Rattle.header_text.specs.Spelling.{vertex_name}
use Rattle.module_types.specs.declared.Side.{Side}
use Rattle.module_types.specs.declared.Side.TheVariants.{Right, Left}
use Rattle.claim_conditions.specs.declared.Residue.{Residue}
use Rattle.claim_conditions.specs.declared.Residue.TheVariants.{Frobenius, Listed}

-- the numerals of some numbers
abbrev pub numbers_form : List ℕ → List (List ℕ)
numbers_form numbers = map decimal numbers

-- ---- modules and maps

abbrev pub side_word : Side → List ℕ
side_word Right = codes "right"
side_word Left = codes "left"

-- module k, of a side and with these dimensions
abbrev pub module_line : ℕ → Side → List ℕ → List (List ℕ)
module_line k side dims = codes "module" ∷ decimal k ∷ side_word side ∷ numbers_form dims

-- map k, from one module to another
abbrev pub map_line : ℕ → ℕ → ℕ → List (List ℕ)
map_line k source target = codes "map" ∷ decimal k ∷ decimal source ∷ decimal target ∷ []

-- ---- matrices

-- each of these rows behind a `/`
abbrev pub slash_each : List (List ℕ) → List (List ℕ)
slash_each [] = []
slash_each (row ∷ rows) = codes "/" ∷ (numbers_form row ++ slash_each rows)

-- the rows with a `/` between each two
abbrev pub matrix_form : List (List ℕ) → List (List ℕ)
matrix_form [] = []
matrix_form (row ∷ rows) = numbers_form row ++ slash_each rows

-- the matrix at the vertex or the arrow of this name
abbrev pub at_line : List ℕ → PlainMatrix → List (List ℕ)
at_line name m = codes "at" ∷ name ∷ matrix_form m.rows

-- whether a matrix has an entry
abbrev pub has_entry : PlainMatrix → Bool
has_entry m = nat_lt 0 m.row_count && nat_lt 0 m.col_count

-- the lines of the matrices that have an entry, the first of which stands at the name of k
abbrev pub at_lines : (ℕ → List ℕ) → ℕ → List PlainMatrix → List (List (List ℕ))
at_lines name k [] = []
at_lines name k (m ∷ matrices) = (if has_entry m then at_line (name k) m ∷ [] else []) ++ at_lines name (k + 1) matrices

-- ---- rows and terms

abbrev pub row_line : List ℕ → List (List ℕ)
row_line entries = codes "row" ∷ numbers_form entries

abbrev pub gen_line : List ℕ → List (List ℕ)
gen_line entries = codes "gen" ∷ numbers_form entries

abbrev pub phi_line : List ℕ → List (List ℕ)
phi_line entries = codes "phi" ∷ numbers_form entries

-- term k, by how many generators it has and the vertices of these
abbrev pub term_line : Quiver → ℕ → List ℕ → List (List ℕ)
term_line Q k vertices = codes "term" ∷ decimal k ∷ decimal (length vertices) ∷ map (vertex_name Q) vertices

-- ---- single lines

abbrev pub ideal_line : ℕ → List (List ℕ)
ideal_line n = codes "ideal" ∷ decimal n ∷ []

abbrev pub power_line : ℕ → List (List ℕ)
power_line n = codes "power" ∷ decimal n ∷ []

abbrev pub residue_word : Residue → List ℕ
residue_word Frobenius = codes "frobenius"
residue_word Listed = codes "listed"

abbrev pub residue_line : Residue → List (List ℕ)
residue_line residue = codes "residue" ∷ residue_word residue ∷ []

abbrev pub left_line : List (List ℕ)
left_line = codes "left" ∷ []

abbrev pub middle_line : List (List ℕ)
middle_line = codes "middle" ∷ []
