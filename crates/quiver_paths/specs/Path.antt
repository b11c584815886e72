-- Paths of a quiver (Assem, Simson, Skowroński, volume 1, chapter II.1): a start, an end and a list of arrows, the first
-- of which starts where the path does, each next one where the one before ends, and the last of which ends where the
-- path does. A path without arrows is trivial and ends where it starts. Paths are written from left to right.
use Rattle.std.specs.Prelude.{ℕ, ◌≡◌, ◌<◌, List, [], ◌∷◌, ◌++◌, length}
use Rattle.quiver_paths.specs.declared.Quiver.{Quiver}
use Rattle.quiver_paths.specs.declared.Path.{Path}
use Rattle.quiver_paths.specs.Quiver.{vertex_count, arrow_count, source, target}

-- the arrows lead from u to w, one behind the other
abbrev pub Leads : Quiver → ℕ → List ℕ → ℕ → Type 0
Leads Q u [] w = u ≡ w
Leads Q u (a ∷ arrows) w = (a < arrow_count Q) × (source Q a ≡ u) × Leads Q (target Q a) arrows w

pub record IsPath (Q : Quiver) (p : Path) : Type 0 where
  pub starts : p.start < vertex_count Q
  pub leads : Leads Q p.start p.arrows p.end

-- how many arrows a path has
abbrev pub path_length : Path → ℕ
path_length p = length p.arrows

-- the first path ends where the second starts
abbrev pub Meets : Path → Path → Type 0
Meets p q = p.end ≡ q.start

-- the first path and then the second, which it meets
abbrev pub concat : Path → Path → Path
concat p q = record { start = p.start; end = q.end; arrows = p.arrows ++ q.arrows }

-- the path without arrows at a vertex
abbrev pub trivial_path : ℕ → Path
trivial_path v = record { start = v; end = v; arrows = [] }

-- the path that is one arrow
abbrev pub arrow_path : Quiver → ℕ → Path
arrow_path Q a = record { start = source Q a; end = target Q a; arrows = a ∷ [] }

-- a path is a path before the factor, the factor, and a path behind it
pub record IsFactor (Q : Quiver) (factor p : Path) : Type 0 where
  pub before : Path
  pub behind : Path
  pub before_is : IsPath Q before
  pub behind_is : IsPath Q behind
  pub meets_before : Meets before factor
  pub meets_behind : Meets factor behind
  pub whole : p ≡ concat before (concat factor behind)
