-- Presentations over the words of a table, and what the other side has of them: the transposed projective modules, and the transposed map. The injective
-- modules of a term are the duals of the first, and the Nakayama functor has the transposed matrices of the second.
-- (Assem, Simson, Skowroński, volume 1, chapter III, 2, and IV, 2.)
use Rattle.std.specs.Prelude.{ℕ, ◌≡◌, List, [], slice_index}
use Rattle.linear_algebra.specs.Matrix.{Mat}
use Rattle.quiver_paths.specs.declared.Path.{Path}
use Rattle.path_algebra.specs.declared.Header.{Header}
use Rattle.alg_table.specs.TableView.{IsTable}
use Rattle.representations.specs.Quiver.{opposite}
use Rattle.representations.specs.Rep.{Rep}
use Rattle.projectives.specs.CanonicalCover.{projectives_at}
use Rattle.projectives.specs.TwoSided.{TwoSided, other}
use Rattle.bound_algebra.specs.TypedPaths.{quiver_of}
use Rattle.bound_tables.specs.TableSides.{table_sides}
use Rattle.module_types.specs.declared.Side.{Side}
use Rattle.module_types.specs.declared.TermRows.{TermRows}
use Rattle.module_types.specs.Algebras.{algebra_at, sided_words, other_side}
use Rattle.module_types.specs.Shapes.{IsTerm}
use Rattle.module_types.specs.Presentations.{Presentation, transposed_of, transposed_row}
use Rattle.module_checks.specs.RowWalks.{along_all}
use Rattle.term_rows.specs.SumDims.{sum_dim, AreVertices, IsRoomFor}

-- a term by its vertices and rows, over the vertices of the term before
abbrev pub presentation : List ℕ → TermRows → Presentation
presentation cover syzygy = record { cover = record { vertices = cover; images = [] }; syzygy = syzygy }

abbrev pub of_terms : TermRows → TermRows → Presentation
of_terms cover syzygy = record { cover = cover; syzygy = syzygy }

-- The rows of term 1 have the shapes of term 0; and term 0, and what stands on the other side, has a dimension of at most 512 at each vertex.
pub record IsPresentation (words : List Path) (h : Header) (side : Side) (cover : List ℕ) (syzygy : TermRows) : Type 0 where
  pub vertices : AreVertices h cover
  pub term : IsTerm h.field (quiver_of h.quiver) (sum_dim words side cover) syzygy
  pub small : IsRoomFor h (sum_dim words side cover) 512
  pub cover_small : IsRoomFor h (sum_dim words (other_side side) cover) 512
  pub syzygy_small : IsRoomFor h (sum_dim words (other_side side) syzygy.vertices) 512

module _ (h : Header) (words : List Path) (t : IsTable h words) (side : Side) where
  -- the words of the side, on both sides
  abbrev pub sides_of : TwoSided h.field (algebra_at side h)
  sides_of = sided_words side (table_sides h words t)

  -- the sum of the projective modules of a side at these vertices; and that of the other side, as representations of the opposite quiver
  abbrev pub sum_in : List ℕ → Rep h.field (algebra_at side h).quiver
  sum_in vertices = projectives_at sides_of.words vertices

  abbrev pub across : List ℕ → Rep h.field (opposite (algebra_at side h).quiver)
  across vertices = projectives_at (other sides_of) vertices

  -- the same, as representations of the other side
  abbrev pub sums_across : List ℕ → Rep h.field (algebra_at (other_side side) h).quiver
  sums_across vertices = projectives_at (sided_words (other_side side) (table_sides h words t)).words vertices

  -- the transposed map at a vertex
  abbrev pub transposed_in : (cover : List ℕ) (syzygy : TermRows) (w : ℕ) → Mat h.field ((across cover).dim w) ((across syzygy.vertices).dim w)
  transposed_in cover syzygy w = (transposed_of sides_of (presentation cover syzygy)).at w

  -- a slice holds the row of generator j under the transposed map, and zeros behind it
  pub record HoldsTransposedRow (cover : List ℕ) (syzygy : TermRows) (j : ℕ) (s : List ℕ) : Type 0 where
    pub at : (z : ℕ) → slice_index s z ≡ (transposed_row sides_of (presentation cover syzygy) j).at 0 z

  -- it holds what the arrows of a path make of that row, as the other side takes them
  pub record HoldsWordRow (cover : List ℕ) (syzygy : TermRows) (j : ℕ) (arrows s : List ℕ) : Type 0 where
    pub first : List ℕ
    pub holds : HoldsTransposedRow cover syzygy j first
    pub along : (c : ℕ) → slice_index s c ≡ along_all (sums_across syzygy.vertices) (other_side side) arrows (slice_index first) c
