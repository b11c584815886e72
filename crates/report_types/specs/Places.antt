-- How many modules, or maps, stand up to each record, by which one of them is found by its number.
use Rattle.std.specs.Prelude.{ℕ, zero, suc, ◌≡◌, ◌+◌, ◌<◌, ◌≤◌, List, length, take, slice_index}
use Rattle.report_types.specs.declared.claims.Record.{Record}
use Rattle.report_types.specs.Numbers.{modules_of, maps_of}

-- for each of the records how many objects stand up to it; what stands behind these numbers does not count
pub record AreReached {X : Type 0} (objects_of : List Record → List X) (records : List Record) (ends : List ℕ) : Type 0 where
  pub enough : length records ≤ length ends
  pub each : (i : ℕ) → i < length records → slice_index ends i ≡ length (objects_of (take (i + 1) records))

-- the modules and the maps up to each record
pub record AreCounted (records : List Record) (module_ends map_ends : List ℕ) : Type 0 where
  pub modules : AreReached modules_of records module_ends
  pub maps : AreReached maps_of records map_ends

-- how many stand before record i, counted from 0
abbrev pub reached : List ℕ → ℕ → ℕ
reached ends zero = zero
reached ends (suc i) = slice_index ends i

-- object n, counted from 1, is object j, counted from 0, of record i
pub record IsPlace (ends : List ℕ) (n i j : ℕ) : Type 0 where
  pub inside : i < length ends
  pub behind : reached ends i + j + 1 ≡ n
  pub within : n ≤ slice_index ends i
