-- What a collection of rows keeps of its fields.
use Rattle.std.specs.Prelude.{ℕ, ◌≡◌, ◌<◌, ◌≤◌, ◌*◌, ◌^◌, List, length}
use Rattle.linear_algebra.specs.Field.{Gf}
use Rattle.fp_linear.specs.Slices.{AreElements}

-- the entries are those of this number of rows, and there is room for their pivots and for one more row than there are columns
pub record HoldsRows (q : Gf) (columns rows room : ℕ) (entries : List ℕ) : Type 0 where
  pub count : length entries ≡ rows * columns
  pub elements : AreElements q entries
  pub rows_fit : rows ≤ room
  pub room_left : columns < room
  pub few_columns : columns ≤ 4096
  pub small_room : room < 2 ^ 32
