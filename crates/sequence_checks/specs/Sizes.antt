-- The dimensions of the middle of a sequence, vertex by vertex. (Assem, Simson, Skowroński, volume 1, chapter IV, 2.)
use Rattle.std.specs.Prelude.{ℕ, ◌≡◌, ◌<◌, ◌+◌, List, slice_index}
use Rattle.linear_algebra.specs.Ranks.{rank}
use Rattle.quiver_paths.specs.declared.Path.{Path}
use Rattle.path_algebra.specs.declared.Header.{Header}
use Rattle.alg_table.specs.TableView.{IsTable}
use Rattle.module_types.specs.declared.Side.{Side}
use Rattle.module_types.specs.declared.Module.{Module}
use Rattle.module_types.specs.declared.TermRows.{TermRows}
use Rattle.sequence_checks.specs.Pullbacks.{pulled_back, around_in}

module _ (h : Header) (words : List Path) (t : IsTable h words) (side : Side) (m : Module) (cover functional : List ℕ) (syzygy : TermRows) where
  -- at the first n vertices the dimensions are those of the injective modules of term 1 and of M, less the rank of the pullback
  pub record HavePulledSizes (dims : List ℕ) (n : ℕ) : Type 0 where
    pub at : (w : ℕ) → w < n → slice_index dims w + rank (pulled_back h words t side m cover functional syzygy w) ≡ (around_in h words t side m cover functional syzygy).dim w
