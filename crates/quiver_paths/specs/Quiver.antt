-- Quivers (Assem, Simson, Skowroński, volume 1, chapter II.1): vertices and arrows, each arrow from a vertex to a vertex.
-- A vertex and an arrow are their places in the quiver's two lists, counted from 0. No definition but `IsQuiver` bounds
-- their numbers.
use Rattle.std.specs.Prelude.{ℕ, ◌<◌, ◌≤◌, length, map, slice_index_or}
use Rattle.quiver_paths.specs.declared.Arrow.{Arrow}
use Rattle.quiver_paths.specs.declared.Quiver.{Quiver}

abbrev pub vertex_count : Quiver → ℕ
vertex_count Q = length Q.vertices

abbrev pub arrow_count : Quiver → ℕ
arrow_count Q = length Q.arrows

-- where an arrow starts; past the last arrow, a place past the last vertex
unfoldable pub source : Quiver → ℕ → ℕ
source Q a = slice_index_or (map (λ (x : Arrow). x.from) Q.arrows) a (vertex_count Q)

-- where it ends
unfoldable pub target : Quiver → ℕ → ℕ
target Q a = slice_index_or (map (λ (x : Arrow). x.to) Q.arrows) a (vertex_count Q)

-- the ends of each arrow are among the vertices
pub record HasEnds (Q : Quiver) : Type 0 where
  pub sources : (a : ℕ) → a < arrow_count Q → source Q a < vertex_count Q
  pub targets : (a : ℕ) → a < arrow_count Q → target Q a < vertex_count Q

-- a quiver of the size that is calculated with: 1 to 32 vertices and at most 128 arrows
pub record IsQuiver (Q : Quiver) : Type 0 where
  pub has_vertex : 0 < vertex_count Q
  pub vertices_limit : vertex_count Q ≤ 32
  pub arrows_limit : arrow_count Q ≤ 128
  pub ends : HasEnds Q
