-- Lines of a script at arrows or at vertices: the refusal of an unknown name, and entries that are elements of the field.
use Rattle.std.specs.Prelude.{ℕ, ◌≤◌, List, All, slice_index}
use Rattle.linear_algebra.specs.Field.{Gf}
use Rattle.quiver_paths.specs.declared.names.Suffix.TheVariants as suffix
use Rattle.report_types.specs.declared.reports.Why.{Why}
use Rattle.report_types.specs.declared.reports.Why.TheVariants as why
use Rattle.script_types.specs.declared.AtLine.{AtLine}
use Rattle.script_types.specs.Ranges.{IsRow}

-- an unknown name is refused as a whole reference
abbrev pub unknown_name : List ℕ → Why
unknown_name name = why.UnknownName record { name = name; suffix = suffix.Whole }

-- the lines hold rows as the grammar allows them over the field
abbrev pub HoldRows : Gf → List AtLine → Type 0
HoldRows f lines = All (λ (l : AtLine). All (IsRow f) l.rows) lines

-- each of the counts is at most the largest dimension
pub record AreSmall (counts : List ℕ) : Type 0 where
  pub at : (i : ℕ) → slice_index counts i ≤ 256
