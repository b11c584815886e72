-- The room that is lent for the conditions on extensions.
use Rattle.std.specs.Prelude.{ℕ, ◌≤◌, ◌+◌, ◌*◌, List, length}

-- the largest number of coordinates of the homomorphisms that are printed
abbrev pub most_coordinates : ℕ
most_coordinates = 1024

-- three rows of a module, a row of coordinates for each of its dimensions, and one row of coordinates more than there are coordinates
abbrev pub extension_room : ℕ
extension_room = 3 * 256 + 256 * 1024 + 1025 * 1024

-- numbers for them, and a place for the pivot of each of the rows that are more than the coordinates
pub record IsExtensionRoom (entries pivots : List ℕ) : Type 0 where
  pub numbers : extension_room ≤ length entries
  pub places : 1025 ≤ length pivots
