-- The dimensions of sums of projective and injective modules as the printed words count them, whatever words are printed.
-- (Assem, Simson, Skowroński, volume 1, chapter III, 2.)
use Rattle.std.specs.Prelude.{ℕ, zero, suc, ◌*◌, List, [], length, slice_index}
use Rattle.linear_algebra.specs.BlockFamilies.{total}
use Rattle.quiver_paths.specs.declared.Path.{Path}
use Rattle.quiver_paths.specs.Quiver.{vertex_count}
use Rattle.path_algebra.specs.declared.Header.{Header}
use Rattle.bound_algebra.specs.TypedPaths.{quiver_of}
use Rattle.bound_algebra.specs.WordLists.{words_between}
use Rattle.module_types.specs.declared.Side.{Side}
use Rattle.module_types.specs.declared.Side.TheVariants.{Right, Left}
use Rattle.module_types.specs.declared.Module.{Module}
use Rattle.module_types.specs.declared.TermRows.{TermRows}
use Rattle.module_types.specs.Algebras.{other_side}
use Rattle.module_types.specs.Readings.{dim_at}
use Rattle.claim_conditions.specs.Terms.{vertices_at}
use Rattle.report_types.specs.declared.claims.Claim.{Claim}
use Rattle.report_types.specs.declared.claims.Claim.TheVariants as claim
use Rattle.report_types.specs.declared.claims.Record.{Record}
use Rattle.report_types.specs.Numbers.{claim_of}

-- the dimension of a module at a vertex
abbrev pub dim_of : Header → Module → ℕ → ℕ
dim_of h m = dim_at (quiver_of h.quiver) m.dims

-- the words that claim 1 prints
abbrev pub words_in : Claim → List Path
words_in (claim.Basis words steps rules) = words
words_in c = []

abbrev pub printed_words : List Record → List Path
printed_words records = words_in (claim_of records 1)

module _ (words : List Path) where
  -- how many words of a side lead from v to w: on the left those from w to v
  abbrev pub count_to : Side → ℕ → ℕ → ℕ
  count_to Right v w = length (words_between words v w)
  count_to Left v w = length (words_between words w v)

  -- the projective modules of a side at some vertices, and the injective ones; at w
  abbrev pub projective_dim : Side → List ℕ → ℕ → ℕ
  projective_dim side vertices w = total (length vertices) (λ j. count_to side (slice_index vertices j) w)

  abbrev pub injective_dim : Side → List ℕ → ℕ → ℕ
  injective_dim side vertices w = projective_dim (other_side side) vertices w

  -- what term k of a resolution of m goes to: m, and then the term before
  abbrev pub covered_dim : Header → Module → List TermRows → ℕ → ℕ → ℕ
  covered_dim h m terms zero = dim_of h m
  covered_dim h m terms (suc k) = projective_dim m.side (vertices_at terms k)

-- the coordinates of maps from a to b; those of a module at some vertices
abbrev pub unknown_count : Header → Module → Module → ℕ
unknown_count h a b = total (vertex_count h.quiver) (λ v. dim_of h a v * dim_of h b v)

abbrev pub count_at : Header → Module → List ℕ → ℕ
count_at h m vertices = total (length vertices) (λ j. dim_of h m (slice_index vertices j))
