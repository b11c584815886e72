-- Room that is lent for equations.
use Rattle.std.specs.Prelude.{ℕ, ◌<◌, ◌≤◌, ◌≡◌, ◌*◌, List, length}

-- More rows of n numbers than there are unknowns, one behind the other, and a place for the pivot of each row.
pub record IsRoom (n rows : ℕ) (entries pivots : List ℕ) : Type 0 where
  pub shape : length entries ≡ rows * n
  pub places : rows ≤ length pivots
  pub many : n < rows
