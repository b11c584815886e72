-- The modules of a vertex over the words of a table: the projective module has a basis of the words from the vertex, the injective module one that is dual
-- to the words to the vertex. (Assem, Simson, Skowroński, volume 1, chapter III, 2.)
use Rattle.std.specs.Prelude.{ℕ, ◌≡◌, ◌<◌, ◌≤◌, List, length, slice_index}
use Rattle.linear_algebra.specs.Field.{Gf}
use Rattle.linear_algebra.specs.BlockFamilies.{total}
use Rattle.linear_algebra.specs.Typed.{grid_of}
use Rattle.fp_linear.specs.Matrix.{PlainMatrix, plain}
use Rattle.quiver_paths.specs.declared.Path.{Path}
use Rattle.quiver_paths.specs.Quiver.{vertex_count}
use Rattle.path_algebra.specs.declared.Header.{Header}
use Rattle.alg_table.specs.TableView.{IsTable}
use Rattle.representations.specs.Quiver.{Quiver}
use Rattle.representations.specs.Rep.{Rep}
use Rattle.projectives.specs.Words.{projective}
use Rattle.projectives.specs.Injective.{injective}
use Rattle.bound_tables.specs.TableSides.{table_sides}
use Rattle.module_types.specs.declared.Side.{Side}
use Rattle.module_types.specs.declared.Module.{Module}
use Rattle.module_types.specs.Algebras.{other_side, algebra_at, sided_words}
use Rattle.module_types.specs.Shapes.{most_dimension}
use Rattle.module_types.specs.Written.{written}
use Rattle.term_rows.specs.SumDims.{count_to}
use Rattle.standard_modules.specs.declared.StandardError.{StandardError}
use Rattle.standard_modules.specs.declared.StandardError.TheVariants.{DimLimit, NoMemory}

module _ (h : Header) (words : List Path) where
  -- The dimensions of the projective module at a vertex and of the injective one: as many as there are words of the side from the vertex, or of the other
  -- side. Then those of the sums of such modules at some vertices.
  abbrev pub projective_dim : Side → ℕ → ℕ
  projective_dim side v = total (vertex_count h.quiver) (count_to words side v)

  abbrev pub injective_dim : Side → ℕ → ℕ
  injective_dim side v = projective_dim (other_side side) v

  abbrev pub projective_dim_at : Side → List ℕ → ℕ → ℕ
  projective_dim_at side vertices j = projective_dim side (slice_index vertices j)

  abbrev pub projectives_dim : Side → List ℕ → ℕ
  projectives_dim side vertices = total (length vertices) (projective_dim_at side vertices)

  abbrev pub injectives_dim : Side → List ℕ → ℕ
  injectives_dim side vertices = projectives_dim (other_side side) vertices

  module _ (t : IsTable h words) (side : Side) (v : ℕ) where
    abbrev pub projective_rep : Rep h.field (algebra_at side h).quiver
    projective_rep = projective (sided_words side (table_sides h words t)).words v

    abbrev pub injective_rep : Rep h.field (algebra_at side h).quiver
    injective_rep = injective (sided_words side (table_sides h words t)) v

    -- written as modules
    abbrev pub projective_at : Module
    projective_at = written side projective_rep

    abbrev pub injective_at : Module
    injective_at = written side injective_rep

-- The module is not made: its dimension exceeds the largest one, or memory ran out.
abbrev pub IsStandardError : ℕ → StandardError → Type 0
IsStandardError dim (DimLimit d) = (d ≡ dim) × (most_dimension < dim)
IsStandardError dim NoMemory = dim ≤ most_dimension

-- the matrix of an arrow on a representation
abbrev pub matrix_of_arrow : {q : Gf} {Q : Quiver} → Rep q Q → ℕ → PlainMatrix
matrix_of_arrow {q} {Q} X a = plain q (X.dim (Q.source a)) (X.dim (Q.target a)) (grid_of (X.mat a))
