-- Parts of a path: its front and rest at a place, its first arrow and its last.
use Rattle.std.specs.Prelude.{ℕ, ◌≡◌, ◌<◌}
use Rattle.quiver_paths.specs.declared.Quiver.{Quiver}
use Rattle.quiver_paths.specs.declared.Path.{Path}
use Rattle.quiver_paths.specs.Quiver.{arrow_count, source, target}
use Rattle.quiver_paths.specs.Path.{IsPath, path_length, Meets, concat, arrow_path}

-- the path is cut behind its first k arrows
pub record IsCut (Q : Quiver) (p : Path) (k : ℕ) (front rest : Path) : Type 0 where
  pub front_is : IsPath Q front
  pub rest_is : IsPath Q rest
  pub meets : Meets front rest
  pub whole : concat front rest ≡ p
  pub front_length : path_length front ≡ k

-- the path is an arrow and then a path
pub record IsArrowThen (Q : Quiver) (p : Path) (arrow : ℕ) (rest : Path) : Type 0 where
  pub arrow_is : arrow < arrow_count Q
  pub rest_is : IsPath Q rest
  pub meets : target Q arrow ≡ rest.start
  pub whole : concat (arrow_path Q arrow) rest ≡ p

-- the path is a path and then an arrow
pub record IsThenArrow (Q : Quiver) (p front : Path) (arrow : ℕ) : Type 0 where
  pub front_is : IsPath Q front
  pub arrow_is : arrow < arrow_count Q
  pub meets : front.end ≡ source Q arrow
  pub whole : concat front (arrow_path Q arrow) ≡ p
