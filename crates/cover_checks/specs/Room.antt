-- Memory that is lent to decide the conditions on a resolution.
use Rattle.std.specs.Prelude.{ℕ, ◌≤◌, ◌+◌, ◌*◌, List, length}

-- three matrices, one with the identity to its right, more rows in coordinates than there are coordinates, three rows, and a place for each word
abbrev pub resolution_bytes : ℕ → ℕ
resolution_bytes words = 3 * 262144 + 524288 + 513 * 512 + 3 * 512 + words

-- the pivots of two bases, and of those rows
abbrev pub resolution_numbers : ℕ
resolution_numbers = 2 * 512 + 513

pub record IsResolutionRoom (words : ℕ) (bytes numbers : List ℕ) : Type 0 where
  pub bytes_fit : resolution_bytes words ≤ length bytes
  pub numbers_fit : resolution_numbers ≤ length numbers
