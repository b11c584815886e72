-- Spaces of rows at the vertices, by their bases, and quotients at the vertices, by their projections; the modules on them.
-- (Assem, Simson, Skowroński, volume 1, chapter I, 1, and III, 1.)
use Rattle.std.specs.Prelude.{ℕ, ◌≡◌, ◌<◌, ◌≤◌, List, length, map, slice_index_or}
use Rattle.linear_algebra.specs.Field.{Gf}
use Rattle.linear_algebra.specs.Matrix.{Mat, Row, zeros, ◌·◌}
use Rattle.linear_algebra.specs.Rank.{IsInSpan}
use Rattle.linear_algebra.specs.RowForm.{IsCoReduced}
use Rattle.linear_algebra.specs.Typed.{as_mat}
use Rattle.linear_algebra.proofs.Dimension.{complement}
use Rattle.fp_linear.specs.Matrix.{PlainMatrix, plain, IsMatrix}
use Rattle.row_spaces.specs.RowSpaces.{IsReducedMatrix, IsRowFormOf, IsQuotientBy}
use Rattle.path_algebra.specs.declared.Header.{Header}
use Rattle.representations.specs.Quiver.{Quiver}
use Rattle.representations.specs.Rep.{Rep}
use Rattle.module_types.specs.declared.Module.{Module}
use Rattle.module_types.specs.Algebras.{algebra_at}
use Rattle.module_types.specs.Readings.{dim_at, rows_at, read, read_beside, family_of, IsHom}
use Rattle.module_types.specs.Shapes.{IsModule, HasShape, AreMatrices, most_dimension}

-- how many rows the matrices of a list have, and how many columns
abbrev pub row_counts : List PlainMatrix → List ℕ
row_counts matrices = map (λ (m : PlainMatrix). m.row_count) matrices

abbrev pub col_counts : List PlainMatrix → List ℕ
col_counts matrices = map (λ (m : PlainMatrix). m.col_count) matrices

module _ {q : Gf} {Q : Quiver} (X : Rep q Q) where
  -- The matrix of a list at a vertex: as many rows as it says, of the length of the rows of X; as many columns, for the rows of X.
  abbrev pub basis_at : (bases : List PlainMatrix) (v : ℕ) → Mat q (dim_at Q (row_counts bases) v) (X.dim v)
  basis_at bases v = as_mat q (dim_at Q (row_counts bases) v) (X.dim v) (rows_at bases v)

  abbrev pub projection_at : (projections : List PlainMatrix) (v : ℕ) → Mat q (X.dim v) (dim_at Q (col_counts projections) v)
  projection_at projections v = as_mat q (X.dim v) (dim_at Q (col_counts projections) v) (rows_at projections v)

  -- At each vertex a basis in reduced row form of a space of rows, so that each arrow takes the one at its source into the one at its target.
  pub record AreSubspaces (bases : List PlainMatrix) : Type 0 where
    pub matrices : AreMatrices q Q.vertices (dim_at Q (row_counts bases)) X.dim bases
    pub reduced : (v : ℕ) → v < Q.vertices → IsReducedMatrix (basis_at bases v)
    pub stable : (a : ℕ) → a < Q.arrows → IsInSpan (basis_at bases (Q.target a)) (basis_at bases (Q.source a) · X.mat a)

  -- At each vertex a co-reduced projection, so that each arrow takes the rows that vanish at its source to such at its target.
  pub record AreQuotients (projections : List PlainMatrix) : Type 0 where
    pub matrices : AreMatrices q Q.vertices X.dim (dim_at Q (col_counts projections)) projections
    pub coreduced : (v : ℕ) → v < Q.vertices → (place : ℕ → ℕ) × IsCoReduced (projection_at projections v) place
    pub stable : (a : ℕ) → a < Q.arrows → (x : Row q (X.dim (Q.source a))) → x · projection_at projections (Q.source a) ≡ zeros q 1 (dim_at Q (col_counts projections) (Q.source a))
        → x · (X.mat a · projection_at projections (Q.target a)) ≡ zeros q 1 (dim_at Q (col_counts projections) (Q.target a))

-- The module n has the dimensions of these spaces, and by their bases it is embedded in a.
pub record IsSubmoduleOn (h : Header) (a n : Module) (bases : List PlainMatrix) : Type 0 where
  pub side : n.side ≡ a.side
  pub dims : n.dims ≡ row_counts bases
  pub shape : IsModule h.field (algebra_at a.side h).quiver n
  pub hom : IsHom (read_beside h a n) (read h a) (family_of (read_beside h a n) (read h a) bases)

-- The module n has the dimensions of these quotients, and by their projections a goes onto it.
pub record IsQuotientOn (h : Header) (a n : Module) (projections : List PlainMatrix) : Type 0 where
  pub side : n.side ≡ a.side
  pub dims : n.dims ≡ col_counts projections
  pub shape : IsModule h.field (algebra_at a.side h).quiver n
  pub hom : IsHom (read h a) (read_beside h a n) (family_of (read h a) (read_beside h a n) projections)

-- A matrix over the field in reduced row form with n columns, whose rows span what those of g do; and a co-reduced one with n rows, onto the quotient
-- by that span.
pub record IsFormOf {q : Gf} {m n : ℕ} (g : Mat q m n) (b : PlainMatrix) : Type 0 where
  pub shape : b ≡ plain q b.row_count n b.rows
  pub matrix : IsMatrix b
  pub form : IsRowFormOf g (as_mat q b.row_count n b.rows)

pub record IsProjectionOf {q : Gf} {m n : ℕ} (g : Mat q m n) (b : PlainMatrix) : Type 0 where
  pub shape : b ≡ plain q n b.col_count b.rows
  pub matrix : IsMatrix b
  pub quotient : IsQuotientBy g (as_mat q n b.col_count b.rows)

-- The first k matrices of a list are such, for the matrices g 0, g 1, .. at the vertices.
module _ {q : Gf} {Q : Quiver} (X : Rep q Q) (size : ℕ → ℕ) (g : (v : ℕ) → Mat q (size v) (X.dim v)) where
  pub record HaveForms (k : ℕ) (bases : List PlainMatrix) : Type 0 where
    pub counted : length bases ≡ k
    pub each : (v : ℕ) (b : PlainMatrix) → v < k → IsFormOf (g v) (slice_index_or bases v b)

  pub record HaveProjections (k : ℕ) (projections : List PlainMatrix) : Type 0 where
    pub counted : length projections ≡ k
    pub each : (v : ℕ) (b : PlainMatrix) → v < k → IsProjectionOf (g v) (slice_index_or projections v b)

-- The matrix of the arrow a on the spaces, in their coordinates; those of the first k arrows.
module _ {q : Gf} {Q : Quiver} (X : Rep q Q) (bases : List PlainMatrix) where
  abbrev pub space_dim : ℕ → ℕ
  space_dim v = dim_at Q (row_counts bases) v

  pub record IsRestriction (a : ℕ) (m : PlainMatrix) : Type 0 where
    pub shape : HasShape q (space_dim (Q.source a)) (space_dim (Q.target a)) m
    pub commutes : as_mat q (space_dim (Q.source a)) (space_dim (Q.target a)) m.rows · basis_at X bases (Q.target a) ≡ basis_at X bases (Q.source a) · X.mat a

  pub record HaveRestrictions (k : ℕ) (matrices : List PlainMatrix) : Type 0 where
    pub counted : length matrices ≡ k
    pub each : (a : ℕ) (m : PlainMatrix) → a < k → IsRestriction a (slice_index_or matrices a m)

-- The matrix of the arrow a on the quotients; those of the first k arrows.
module _ {q : Gf} {Q : Quiver} (X : Rep q Q) (projections : List PlainMatrix) where
  abbrev pub quotient_dim : ℕ → ℕ
  quotient_dim v = dim_at Q (col_counts projections) v

  pub record IsInduced (a : ℕ) (m : PlainMatrix) : Type 0 where
    pub shape : HasShape q (quotient_dim (Q.source a)) (quotient_dim (Q.target a)) m
    pub commutes : X.mat a · projection_at X projections (Q.target a) ≡ projection_at X projections (Q.source a) · as_mat q (quotient_dim (Q.source a)) (quotient_dim (Q.target a)) m.rows

  pub record HaveInduced (k : ℕ) (matrices : List PlainMatrix) : Type 0 where
    pub counted : length matrices ≡ k
    pub each : (a : ℕ) (m : PlainMatrix) → a < k → IsInduced a (slice_index_or matrices a m)

-- Matrices of at most as many rows as the largest dimension, and of at most as many columns.
pub record AreLow (matrices : List PlainMatrix) : Type 0 where
  pub each : (v : ℕ) (m : PlainMatrix) → v < length matrices → (slice_index_or matrices v m).row_count ≤ most_dimension

pub record AreNarrow (matrices : List PlainMatrix) : Type 0 where
  pub each : (v : ℕ) (m : PlainMatrix) → v < length matrices → (slice_index_or matrices v m).col_count ≤ most_dimension

-- rows that span those that the matrix at a vertex takes to zero
abbrev pub kernel_size : {q : Gf} {Q : Quiver} (X Y : Rep q Q) → List PlainMatrix → ℕ → ℕ
kernel_size X Y f v = (complement (family_of X Y f v)).nullity

abbrev pub kernel_family : {q : Gf} {Q : Quiver} (X Y : Rep q Q) (f : List PlainMatrix) (v : ℕ) → Mat q (kernel_size X Y f v) (X.dim v)
kernel_family X Y f v = (complement (family_of X Y f v)).kernel
