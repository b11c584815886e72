-- Matrices of terms in slices, row by row. (Assem, Simson, Skowroński, volume 1, chapter III, 2.)
use Rattle.std.specs.Prelude.{ℕ, ◌≡◌, ◌<◌, List, slice_index}
use Rattle.linear_algebra.specs.Field.{Gf}
use Rattle.linear_algebra.specs.Matrix.{Mat}
use Rattle.quiver_paths.specs.declared.Path.{Path}
use Rattle.path_algebra.specs.declared.Header.{Header}
use Rattle.fp_linear.specs.Slices.{cell}
use Rattle.alg_table.specs.TableView.{IsTable}
use Rattle.representations.specs.Quiver.{Quiver}
use Rattle.representations.specs.Rep.{Rep}
use Rattle.projectives.specs.Words.{Words}
use Rattle.bound_tables.specs.TableSides.{table_sides}
use Rattle.module_types.specs.declared.Side.{Side}
use Rattle.module_types.specs.declared.Module.{Module}
use Rattle.module_types.specs.declared.TermRows.{TermRows}
use Rattle.module_types.specs.Algebras.{algebra_at, sided_words}
use Rattle.module_types.specs.Readings.{read}
use Rattle.claim_conditions.specs.Terms.{sum_at, goes_to, printed_matrix}
use Rattle.module_checks.specs.RowWalks.{along_all}

-- a slice holds what the arrows make of a row, and zeros behind it
pub record HoldsAlong {q : Gf} {Q : Quiver} (X : Rep q Q) (side : Side) (arrows : List ℕ) (f : ℕ → ℕ) (new : List ℕ) : Type 0 where
  pub at : (j : ℕ) → slice_index new j ≡ along_all X side arrows f j

-- the first rows of n numbers in a slice are those of the matrix
pub record FirstRows {q : Gf} {m k : ℕ} (a : Mat q m k) (n count : ℕ) (s : List ℕ) : Type 0 where
  pub at : (r c : ℕ) → r < count → c < n → cell n s r c ≡ a.at r c

module _ (h : Header) (words : List Path) (t : IsTable h words) (a : Module) (terms : List TermRows) (k : ℕ) where
  -- term k and what it goes to, over the words of a table
  abbrev pub term_sum : Rep h.field (algebra_at a.side h).quiver
  term_sum = sum_at (sided_words a.side (table_sides h words t)).words (read h a) terms k

  abbrev pub term_target : Rep h.field (algebra_at a.side h).quiver
  term_target = goes_to (sided_words a.side (table_sides h words t)).words (read h a) terms k

  -- its printed matrix at a vertex
  abbrev pub matrix_in : (w : ℕ) → Mat h.field (term_sum.dim w) (term_target.dim w)
  matrix_in w = printed_matrix (sided_words a.side (table_sides h words t)).words (read h a) terms k w
