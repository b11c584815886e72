-- A basis of the homomorphisms from one module to another. (Assem, Simson, Skowroński, volume 1, chapter I, 2, and III, 1.)
use Rattle.std.specs.Prelude.{◌≡◌}
use Rattle.linear_algebra.specs.Matrix.{Mat}
use Rattle.linear_algebra.specs.Typed.{as_mat}
use Rattle.fp_linear.specs.Matrix.{PlainMatrix}
use Rattle.path_algebra.specs.declared.Header.{Header}
use Rattle.representations.specs.HomSpace.{unknowns, IsHomBasis}
use Rattle.module_types.specs.declared.Module.{Module}
use Rattle.module_types.specs.Readings.{read, read_beside}

-- the printed rows, each a homomorphism vertex by vertex, each matrix row by row
abbrev pub hom_rows : (h : Header) (a b : Module) (rows : PlainMatrix) → Mat h.field rows.row_count (unknowns (read h a) (read_beside h a b))
hom_rows h a b rows = as_mat h.field rows.row_count (unknowns (read h a) (read_beside h a b)) rows.rows

-- The modules have one side, and the rows are a basis of the homomorphisms from a to b.
pub record HomHolds (h : Header) (a b : Module) (rows : PlainMatrix) : Type 0 where
  pub side : a.side ≡ b.side
  pub is_basis : IsHomBasis (read h a) (read_beside h a b) (hom_rows h a b rows)
