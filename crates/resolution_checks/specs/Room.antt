-- How large the terms are that the conditions on resolutions are decided for.
use Rattle.std.specs.Prelude.{ℕ, ◌≤◌, ◌+◌, ◌*◌, List}
use Rattle.quiver_paths.specs.declared.Path.{Path}
use Rattle.path_algebra.specs.declared.Header.{Header}
use Rattle.module_types.specs.declared.Module.{Module}
use Rattle.module_types.specs.declared.TermRows.{TermRows}
use Rattle.term_rows.specs.SumDims.{covered_dim, IsRoomFor}

-- the largest dimension of a term, and so of what a term goes to
abbrev pub most_dimension : ℕ
most_dimension = 512

-- two rows, a place for each word, and two matrices
abbrev pub matrix_conditions_room : ℕ → ℕ
matrix_conditions_room words = 2 * 512 + words + 2 * 262144

-- what each of the first terms goes to, and each of them, has at each vertex at most the largest dimension
pub record AreSmall (words : List Path) (h : Header) (a : Module) (terms : List TermRows) (n : ℕ) : Type 0 where
  pub fits : (k : ℕ) → k ≤ n → IsRoomFor h (covered_dim words h a terms k) most_dimension
