-- The numbers that bound scripts and reports.
use Rattle.std.specs.Prelude.{ℕ, ◌≤◌}

-- more paths shorter than the bound than this are refused, and more words than this are in no report
abbrev pub path_limit : ℕ
path_limit = 4096

-- no path in a report is longer
abbrev pub length_limit : ℕ
length_limit = 64

-- the coordinates of homomorphisms between two modules, and out of a term of a resolution
abbrev pub unknown_limit : ℕ
unknown_limit = 1024

-- the dimension of a term of a resolution, and of its injective modules
abbrev pub term_limit : ℕ
term_limit = 512

-- the length of a resolution
abbrev pub resolution_limit : ℕ
resolution_limit = 16

-- the power of an ideal that is zero
abbrev pub power_limit : ℕ
power_limit = 256

-- the parts of a decomposition that a script can name
abbrev pub part_limit : ℕ
part_limit = 256

-- a line of a script, counted from 1: a script has at most 4,194,304 bytes
pub record IsLine (n : ℕ) : Type 0 where
  pub from : 1 ≤ n
  pub to : n ≤ 4194304
