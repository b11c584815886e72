-- What is decided of a translate vertex by vertex and arrow by arrow. (Assem, Simson, Skowroński, volume 1, chapter IV, 2.)
use Rattle.std.specs.Prelude.{ℕ, ◌≡◌, ◌<◌, ◌+◌, List, slice_index}
use Rattle.linear_algebra.specs.Matrix.{zeros, transpose, ◌·◌}
use Rattle.linear_algebra.specs.Ranks.{rank}
use Rattle.fp_linear.specs.Matrix.{PlainMatrix}
use Rattle.quiver_paths.specs.declared.Path.{Path}
use Rattle.path_algebra.specs.declared.Header.{Header}
use Rattle.alg_table.specs.TableView.{IsTable}
use Rattle.representations.specs.Quiver.{Quiver, opposite}
use Rattle.representations.specs.Rep.{Rep}
use Rattle.representations.specs.Dual.{dual}
use Rattle.linear_algebra.specs.Field.{Gf}
use Rattle.module_types.specs.declared.Side.{Side}
use Rattle.module_types.specs.declared.Module.{Module}
use Rattle.module_types.specs.declared.TermRows.{TermRows}
use Rattle.module_types.specs.Algebras.{algebra_at}
use Rattle.module_types.specs.Readings.{rep_of, family_of}
use Rattle.translate_checks.specs.Across.{across, transposed_in}

-- the square at an arrow
abbrev pub IsSquareAt : {q : Gf} {Q : Quiver} (X Y : Rep q Q) → List PlainMatrix → ℕ → Type 0
IsSquareAt {Q = Q} X Y matrices a = X.mat a · family_of X Y matrices (Q.target a) ≡ family_of X Y matrices (Q.source a) · Y.mat a

module _ (h : Header) (words : List Path) (t : IsTable h words) (side : Side) where
  -- a module on the side, and on the other side
  abbrev pub module_in : Module → Rep h.field (algebra_at side h).quiver
  module_in m = rep_of h.field (algebra_at side h).quiver m

  abbrev pub module_across : Module → Rep h.field (opposite (algebra_at side h).quiver)
  module_across m = rep_of h.field (opposite (algebra_at side h).quiver) m

  -- the sum of the injective modules at these vertices
  abbrev pub injectives_in : List ℕ → Rep h.field (algebra_at side h).quiver
  injectives_in vertices = dual (across h words t side vertices)

  module _ (cover : List ℕ) (syzygy : TermRows) (m : Module) (matrices : List PlainMatrix) where
    -- at the first n vertices: the matrices into the injective modules, and then the image of the differential under the Nakayama functor, are zero; the
    -- transposed differential, and then the matrices onto the module, are zero
    pub record AreKilled (n : ℕ) : Type 0 where
      pub at : (w : ℕ) → w < n → family_of (module_in m) (injectives_in syzygy.vertices) matrices w · transpose (transposed_in h words t side cover syzygy w)
          ≡ zeros h.field ((module_in m).dim w) ((injectives_in cover).dim w)

    pub record Kill (n : ℕ) : Type 0 where
      pub at : (w : ℕ) → w < n → transposed_in h words t side cover syzygy w · family_of (across h words t side syzygy.vertices) (module_across m) matrices w
          ≡ zeros h.field ((across h words t side cover).dim w) ((module_across m).dim w)

  -- At the first n vertices the dimensions are those of the transposed term 1 less the rank.
  pub record HaveSizes (cover : List ℕ) (syzygy : TermRows) (dims : List ℕ) (n : ℕ) : Type 0 where
    pub at : (w : ℕ) → w < n → slice_index dims w + rank (transposed_in h words t side cover syzygy w) ≡ (across h words t side syzygy.vertices).dim w
