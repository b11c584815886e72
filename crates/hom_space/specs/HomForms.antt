-- The basis in reduced row form of the homomorphisms from one module to another, and when it is refused.
-- (Assem, Simson, Skowroński, volume 1, chapter I, 2, and III, 1.)
use Rattle.std.specs.Prelude.{ℕ, ◌≡◌, ◌<◌, ◌≤◌}
use Rattle.fp_linear.specs.Matrix.{PlainMatrix}
use Rattle.path_algebra.specs.declared.Header.{Header}
use Rattle.representations.specs.HomSpace.{unknowns}
use Rattle.module_types.specs.declared.Module.{Module}
use Rattle.module_types.specs.Readings.{read, read_beside}
use Rattle.module_types.specs.Shapes.{HasShape}
use Rattle.claim_conditions.specs.Homs.{HomHolds}
use Rattle.claim_conditions.specs.HomConditions.{AreRowsReduced}
use Rattle.report_types.specs.Limits.{unknown_limit}
use Rattle.hom_space.specs.declared.HomError.{HomError}
use Rattle.hom_space.specs.declared.HomError.TheVariants.{HomLimit, NoMemory}

-- how many entries a homomorphism from a to b has
abbrev pub unknown_number : Header → Module → Module → ℕ
unknown_number h a b = unknowns (read h a) (read_beside h a b)

-- a matrix over the field with a column for each entry of a homomorphism
abbrev pub IsRowsOfHoms : Header → Module → Module → PlainMatrix → Type 0
IsRowsOfHoms h a b rows = HasShape h.field rows.row_count (unknown_number h a b) rows

-- The modules have one side, and the rows are a basis of the homomorphisms from a to b, in reduced row form.
pub record IsReducedHomBasis (h : Header) (a b : Module) (rows : PlainMatrix) : Type 0 where
  pub shape : IsRowsOfHoms h a b rows
  pub holds : HomHolds h a b rows
  pub reduced : AreRowsReduced h a b rows

-- Too many entries, which are counted; want of memory comes only where there are not too many.
pub record ExceedsUnknowns (h : Header) (a b : Module) (count : ℕ) : Type 0 where
  pub counted : count ≡ unknown_number h a b
  pub many : unknown_limit < count

abbrev pub IsHomError : Header → Module → Module → HomError → Type 0
IsHomError h a b (HomLimit count) = ExceedsUnknowns h a b count
IsHomError h a b NoMemory = unknown_number h a b ≤ unknown_limit
