-- The pullback of a presentation and a functional, transposed, over the words of a table. (Assem, Simson, Skowroński, volume 1, chapter IV, 2.)
use Rattle.std.specs.Prelude.{ℕ, ◌≡◌, ◌<◌, ◌+◌, List, [], slice_index}
use Rattle.linear_algebra.specs.Field.{neg}
use Rattle.linear_algebra.specs.Matrix.{Mat, Row, transpose, zeros, ◌·◌}
use Rattle.quiver_paths.specs.declared.Path.{Path}
use Rattle.path_algebra.specs.declared.Header.{Header}
use Rattle.alg_table.specs.TableView.{IsTable}
use Rattle.representations.specs.Quiver.{opposite}
use Rattle.representations.specs.Rep.{Rep}
use Rattle.representations.specs.Dual.{dual}
use Rattle.representations.specs.Sum.{sum_rep}
use Rattle.fp_linear.specs.Matrix.{PlainMatrix}
use Rattle.projectives.specs.CanonicalCover.{vertex_in}
use Rattle.module_types.specs.declared.Side.{Side}
use Rattle.module_types.specs.declared.Module.{Module}
use Rattle.module_types.specs.declared.TermRows.{TermRows}
use Rattle.module_types.specs.Algebras.{algebra_at, other_side}
use Rattle.module_types.specs.Readings.{family_of}
use Rattle.module_types.specs.Presentations.{part, theta, pullback}
use Rattle.module_checks.specs.RowWalks.{along_all}
use Rattle.translate_checks.specs.Across.{sides_of, presentation, HoldsWordRow}
use Rattle.translate_checks.specs.Steps.{module_in, injectives_in}

module _ (h : Header) (words : List Path) (t : IsTable h words) (side : Side) (m : Module) (cover : List ℕ) (functional : List ℕ) where
  -- the dual of the module, on the other side
  abbrev pub dual_in : Rep h.field (opposite (algebra_at side h).quiver)
  dual_in = dual (module_in h words t side m)

  -- a part of the functional, as a row of the dual
  abbrev pub part_row : (j : ℕ) → Row h.field (dual_in.dim (vertex_in cover j))
  part_row j = transpose (part (sides_of h words t side) (module_in h words t side m) (record { vertices = cover; images = [] }) functional j)

  -- θ at a vertex, and the pullback, transposed: for each place of the injective modules of term 0 what stands at it
  abbrev pub theta_in : (w : ℕ) → Mat h.field ((module_in h words t side m).dim w) ((injectives_in h words t side cover).dim w)
  theta_in w = theta (sides_of h words t side) (module_in h words t side m) (record { vertices = cover; images = [] }) functional w

  abbrev pub pulled_back : (syzygy : TermRows) (w : ℕ) → Mat h.field ((injectives_in h words t side cover).dim w) ((injectives_in h words t side syzygy.vertices).dim w + (module_in h words t side m).dim w)
  pulled_back syzygy w = transpose (pullback (sides_of h words t side) (module_in h words t side m) (presentation cover syzygy) functional w)

  -- a slice holds part j, and zeros behind it; what the arrows of a path make of it
  pub record HoldsPart (j : ℕ) (s : List ℕ) : Type 0 where
    pub at : (z : ℕ) → slice_index s z ≡ (part_row j).at 0 z

  pub record HoldsPartAlong (j : ℕ) (arrows s : List ℕ) : Type 0 where
    pub first : List ℕ
    pub holds : HoldsPart j first
    pub along : (c : ℕ) → slice_index s c ≡ along_all dual_in (other_side side) arrows (slice_index first) c

  -- a slice holds a numbers of what the arrows make of the transposed row of generator j, and then the negatives of b numbers of what they make of part j
  pub record IsPulledRow (syzygy : TermRows) (j : ℕ) (arrows : List ℕ) (a b : ℕ) (s : List ℕ) : Type 0 where
    pub left : List ℕ
    pub right : List ℕ
    pub mapped : HoldsWordRow h words t side cover syzygy j arrows left
    pub valued : HoldsPartAlong j arrows right
    pub first : (c : ℕ) → c < a → slice_index s c ≡ slice_index left c
    pub second : (c : ℕ) → c < b → slice_index s (a + c) ≡ neg h.field (slice_index right c)

  -- a module on the side into the injective modules of term 1 and M; at the first n vertices such matrices, and then the pullback, are zero
  abbrev pub around_in : (syzygy : TermRows) → Rep h.field (algebra_at side h).quiver
  around_in syzygy = sum_rep (injectives_in h words t side syzygy.vertices) (module_in h words t side m)

  pub record ArePulledBack (syzygy : TermRows) (e : Module) (matrices : List PlainMatrix) (n : ℕ) : Type 0 where
    pub at : (w : ℕ) → w < n → family_of (module_in h words t side e) (around_in syzygy) matrices w · transpose (pulled_back syzygy w) ≡ zeros h.field ((module_in h words t side e).dim w) ((injectives_in h words t side cover).dim w)
