-- The dimensions of sums of projective modules of a side, as the words count them. (Assem, Simson, Skowroński, volume 1, chapter III, 2.)
use Rattle.std.specs.Prelude.{ℕ, zero, suc, ◌<◌, ◌≤◌, List, length, slice_index}
use Rattle.linear_algebra.specs.BlockFamilies.{total}
use Rattle.quiver_paths.specs.declared.Path.{Path}
use Rattle.quiver_paths.specs.Quiver.{vertex_count}
use Rattle.path_algebra.specs.declared.Header.{Header}
use Rattle.bound_algebra.specs.TypedPaths.{quiver_of}
use Rattle.bound_algebra.specs.WordLists.{words_between}
use Rattle.alg_table.specs.declared.table.Side.{Side as TableSide}
use Rattle.alg_table.specs.declared.table.Side.TheVariants as table_side
use Rattle.module_types.specs.declared.Side.{Side}
use Rattle.module_types.specs.declared.Side.TheVariants.{Right, Left}
use Rattle.module_types.specs.declared.Module.{Module}
use Rattle.module_types.specs.declared.TermRows.{TermRows}
use Rattle.module_types.specs.Readings.{dim_at}
use Rattle.module_types.specs.Shapes.{IsTerm}
use Rattle.claim_conditions.specs.Terms.{term_at, vertices_at}

-- the side as a table has it
abbrev pub side_in_table : Side → TableSide
side_in_table Right = table_side.Right
side_in_table Left = table_side.Left

module _ (words : List Path) where
  -- how many words of a side lead from v to w: on the left those from w to v
  abbrev pub count_to : Side → ℕ → ℕ → ℕ
  count_to Right v w = length (words_between words v w)
  count_to Left v w = length (words_between words w v)

  -- the dimension at w of the sum of the projective modules at some vertices
  abbrev pub sum_dim : Side → List ℕ → ℕ → ℕ
  sum_dim side vertices w = total (length vertices) (λ j. count_to side (slice_index vertices j) w)

  -- the dimension at a vertex of what term k goes to: the module, and then the term before
  abbrev pub covered_dim : Header → Module → List TermRows → ℕ → ℕ → ℕ
  covered_dim h m terms zero = dim_at (quiver_of h.quiver) m.dims
  covered_dim h m terms (suc k) = sum_dim m.side (vertices_at terms k)

  -- the first terms are terms over what they go to
  pub record AreTerms (h : Header) (m : Module) (terms : List TermRows) (n : ℕ) : Type 0 where
    pub counted : n ≤ length terms
    pub each : (k : ℕ) → k < n → IsTerm h.field (quiver_of h.quiver) (covered_dim h m terms k) (term_at terms k)

-- these are vertices
pub record AreVertices (h : Header) (vertices : List ℕ) : Type 0 where
  pub declared : (j : ℕ) → j < length vertices → slice_index vertices j < vertex_count h.quiver

-- each vertex has a dimension of at most this
pub record IsRoomFor (h : Header) (dim : ℕ → ℕ) (room : ℕ) : Type 0 where
  pub fits : (w : ℕ) → w < vertex_count h.quiver → dim w ≤ room
