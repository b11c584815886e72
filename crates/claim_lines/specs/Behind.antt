-- A path behind ascending paths.
use Rattle.std.specs.Prelude.{List, Contains}
use Rattle.quiver_paths.specs.declared.Path.{Path}
use Rattle.quiver_paths.specs.PathOrder.{IsSmaller, IsAscending}

-- the words ascend, and the path is greater than each of them
pub record IsBehind (words : List Path) (p : Path) : Type 0 where
  pub ascending : IsAscending words
  pub greater : (x : Path) → Contains words x → IsSmaller x p
