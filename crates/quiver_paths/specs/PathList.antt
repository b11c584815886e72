-- All paths of a quiver below a length, in ascending order, and their number.
use Rattle.std.specs.Prelude.{ℕ, zero, suc, ◌<◌, ◌-◌, ◌^◌, ◌==◌, min, List, [], ◌++◌, length, map, filter, Contains}
use Rattle.std.specs.List.{flat_map, range_with_len}
use Rattle.quiver_paths.specs.declared.Quiver.{Quiver}
use Rattle.quiver_paths.specs.declared.Path.{Path}
use Rattle.quiver_paths.specs.Quiver.{vertex_count, arrow_count, target}
use Rattle.quiver_paths.specs.Path.{IsPath, path_length, concat, trivial_path, arrow_path}
use Rattle.quiver_paths.specs.PathOrder.{IsAscending}

-- the paths that begin with an arrow and go on with one of the given paths
abbrev pub behind_arrow : Quiver → List Path → ℕ → List Path
behind_arrow Q ps a = map (concat (arrow_path Q a)) (filter (λ p. p.start == target Q a) ps)

-- the paths of one length: the trivial paths by vertex; for one arrow more, each arrow in the order of declaration with
-- each of the shorter paths that it meets
unfoldable pub paths_of_length : Quiver → ℕ → List Path
paths_of_length Q zero = map trivial_path (range_with_len 0 (vertex_count Q))
paths_of_length Q (suc n) = flat_map (behind_arrow Q (paths_of_length Q n)) (range_with_len 0 (arrow_count Q))

-- the paths shorter than t, by length
unfoldable pub paths_below : Quiver → ℕ → List Path
paths_below Q zero = []
paths_below Q (suc t) = paths_below Q t ++ paths_of_length Q t

-- how many there are. The law `lists_all_paths` says that `paths_below` has each of them once
abbrev pub path_count : Quiver → ℕ → ℕ
path_count Q t = length (paths_below Q t)

-- a list has exactly the paths of the quiver that are shorter than t, in ascending order and so each once
pub record ListsPathsBelow (Q : Quiver) (t : ℕ) (ps : List Path) : Type 0 where
  pub ascending : IsAscending ps
  pub all : (p : Path) → IsPath Q p → path_length p < t → Contains ps p
  pub only : (p : Path) → Contains ps p → IsPath Q p × (path_length p < t)

-- a number that fits 64 bits, and the greatest such number in the place of a larger one
abbrev pub saturated : ℕ → ℕ
saturated n = min n (2 ^ 64 - 1)
