-- The conditions on resolutions place by place and vertex by vertex, over the words of a table. (Assem, Simson, Skowroński, volume 1, chapter I, 5.)
use Rattle.std.specs.Prelude.{ℕ, suc, zero, ◌<◌, ◌≡◌, ◌+◌, List}
use Rattle.linear_algebra.specs.Matrix.{zeros, ◌·◌}
use Rattle.linear_algebra.specs.Ranks.{rank}
use Rattle.quiver_paths.specs.declared.Path.{Path}
use Rattle.quiver_paths.specs.Quiver.{vertex_count}
use Rattle.path_algebra.specs.declared.Header.{Header}
use Rattle.alg_table.specs.TableView.{IsTable}
use Rattle.representations.specs.Rep.{Rep}
use Rattle.projectives.specs.Words.{Words}
use Rattle.bound_tables.specs.TableSides.{table_sides}
use Rattle.module_types.specs.declared.Module.{Module}
use Rattle.module_types.specs.declared.TermRows.{TermRows}
use Rattle.module_types.specs.Algebras.{algebra_at, sided_words}
use Rattle.module_types.specs.Readings.{read}
use Rattle.term_rows.specs.TermCells.{term_sum, term_target, matrix_in}

module _ (h : Header) (words : List Path) (t : IsTable h words) (a : Module) (terms : List TermRows) where
  -- the words of the side
  abbrev pub words_of_side : Words h.field (algebra_at a.side h).quiver
  words_of_side = (sided_words a.side (table_sides h words t)).words

  -- the matrices of term k + 1 and term k compose to zero at w; at the first vertices
  abbrev pub ComposesAt : ℕ → ℕ → Type 0
  ComposesAt k w = matrix_in h words t a terms (suc k) w · matrix_in h words t a terms k w ≡ zeros h.field ((term_sum h words t a terms (suc k)).dim w) ((term_target h words t a terms k).dim w)

  pub record ComposeBelow (k n : ℕ) : Type 0 where
    pub at : (w : ℕ) → w < n → ComposesAt k w

  pub record ComposeUpTo (n : ℕ) : Type 0 where
    pub at : (k : ℕ) → k < n → ComposeBelow k (vertex_count h.quiver)

  -- the ranks of the maps in and out of term k add to its dimension at w; at the first vertices
  abbrev pub ExactAt : ℕ → ℕ → Type 0
  ExactAt k w = rank (matrix_in h words t a terms (suc k) w) + rank (matrix_in h words t a terms k w) ≡ (term_sum h words t a terms k).dim w

  pub record ExactBelow (k n : ℕ) : Type 0 where
    pub at : (w : ℕ) → w < n → ExactAt k w

  pub record ExactUpTo (n : ℕ) : Type 0 where
    pub at : (k : ℕ) → k < n → ExactBelow k (vertex_count h.quiver)

  -- term 0 is onto the module at the first vertices
  pub record OntoBelow (n : ℕ) : Type 0 where
    pub at : (w : ℕ) → w < n → rank (matrix_in h words t a terms zero w) ≡ (read h a).dim w
