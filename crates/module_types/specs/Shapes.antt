-- Modules, maps and terms whose lists have the lengths, and whose matrices and rows the shapes, that the quiver and the dimensions ask for.
use Rattle.std.specs.Prelude.{ℕ, ◌≡◌, ◌<◌, ◌≤◌, List, [], length, slice_index, slice_index_or}
use Rattle.linear_algebra.specs.Field.{Gf}
use Rattle.linear_algebra.specs.Rows.{IsRow}
use Rattle.linear_algebra.specs.BlockFamilies.{total}
use Rattle.fp_linear.specs.Matrix.{PlainMatrix, IsMatrix}
use Rattle.representations.specs.Quiver.{Quiver}
use Rattle.module_types.specs.declared.Module.{Module}
use Rattle.module_types.specs.declared.TermRows.{TermRows}
use Rattle.module_types.specs.Readings.{dim_at}

-- a matrix over the field with so many rows and columns
pub record HasShape (q : Gf) (m n : ℕ) (a : PlainMatrix) : Type 0 where
  pub matrix : IsMatrix a
  pub field : a.field ≡ q
  pub row_count : a.row_count ≡ m
  pub col_count : a.col_count ≡ n

-- each of the matrices has the rows and the columns that are asked for
pub record AreMatrices (q : Gf) (count : ℕ) (rows columns : ℕ → ℕ) (matrices : List PlainMatrix) : Type 0 where
  pub counted : length matrices ≡ count
  pub each : (i : ℕ) (a : PlainMatrix) → i < count → HasShape q (rows i) (columns i) (slice_index_or matrices i a)

-- the dimension of a module: the sum of its dimensions at the vertices
abbrev pub dimension : List ℕ → ℕ
dimension dims = total (length dims) (slice_index dims)

-- the largest dimension
abbrev pub most_dimension : ℕ
most_dimension = 256

-- The lists of a module over the quiver, of any dimension of which there are matrices (`IsMatrix`): as many dimensions as vertices, and as many matrices
-- as arrows, each with the rows and the columns of its arrow.
pub record HasModuleShape (q : Gf) (Q : Quiver) (m : Module) : Type 0 where
  pub counted : length m.dims ≡ Q.vertices
  pub matrices : AreMatrices q Q.arrows (λ a. dim_at Q m.dims (Q.source a)) (λ a. dim_at Q m.dims (Q.target a)) m.matrices

-- such lists, of at most the largest dimension
pub record IsModule (q : Gf) (Q : Quiver) (m : Module) : Type 0 where
  pub counted : length m.dims ≡ Q.vertices
  pub small : dimension m.dims ≤ most_dimension
  pub matrices : AreMatrices q Q.arrows (λ a. dim_at Q m.dims (Q.source a)) (λ a. dim_at Q m.dims (Q.target a)) m.matrices

-- The shape alone, without the limit.
abbrev pub module_shape : {q : Gf} {Q : Quiver} {m : Module} → IsModule q Q m → HasModuleShape q Q m
module_shape s = record { counted = s.counted; matrices = s.matrices }

-- Matrices of a map from one module to another. Whether the two have one side is not asked here: the caller compares the sides.
abbrev pub IsMap : (q : Gf) (Q : Quiver) → Module → Module → List PlainMatrix → Type 0
IsMap q Q a b matrices = AreMatrices q Q.vertices (dim_at Q a.dims) (dim_at Q b.dims) matrices

-- a term whose generators stand at vertices, with a row for each that has the length of the dimension there
pub record IsTerm (q : Gf) (Q : Quiver) (dim : ℕ → ℕ) (t : TermRows) : Type 0 where
  pub counted : length t.images ≡ length t.vertices
  pub declared : (j : ℕ) → j < length t.vertices → slice_index t.vertices j < Q.vertices
  pub each : (j : ℕ) → j < length t.vertices → IsRow q (dim (slice_index t.vertices j)) (slice_index_or t.images j [])
