-- The room that the conditions on a local module are decided in.
use Rattle.std.specs.Prelude.{ℕ, ◌≤◌, ◌+◌, ◌*◌, List, length}

-- For families of n numbers: four times as many families as n, and six more; the pivots of four lists of rows, and what the least power needs. For 1,024
-- numbers these are 4,200,448 bytes and 4,608 numbers.
abbrev pub local_bytes : ℕ → ℕ
local_bytes n = 4 * (n * n) + 6 * n

abbrev pub local_numbers : ℕ → ℕ
local_numbers n = 4 * n + 512

pub record HasLocalRoom (n : ℕ) (bytes numbers : List ℕ) : Type 0 where
  pub bytes_there : local_bytes n ≤ length bytes
  pub numbers_there : local_numbers n ≤ length numbers
