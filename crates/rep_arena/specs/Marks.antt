-- Heights of the two lists of entries, and what is left where they are cut there.
use Rattle.std.specs.Prelude.{ℕ, zero, suc, ◌<◌, ◌≤◌, ◌≢◌, ◌+◌, ◌++◌, ◌==◌, ◌⊎◌, if◌then◌else◌, List, [], ◌∷◌, length, take, map, All, AllPairs, Contains, nat_le}
use Rattle.module_types.specs.declared.Map.{Map}
use Rattle.rep_arena.specs.declared.marks.RepId.{RepId}
use Rattle.rep_arena.specs.declared.marks.MapId.{MapId}
use Rattle.rep_arena.specs.Entries.{Entries, NamesModule, NamesMap, module_at, map_at}

abbrev pub module_numbers : List RepId → List ℕ
module_numbers ids = map (λ (id : RepId). id.number) ids

abbrev pub map_numbers : List MapId → List ℕ
map_numbers ids = map (λ (id : MapId). id.number) ids

-- how many modules and how many maps
pub record Heights : Type 0 where
  pub modules : ℕ
  pub maps : ℕ

abbrev pub heights_of : Entries → Heights
heights_of e = record { modules = length e.modules; maps = length e.maps }

-- Nothing stands below it that is not there, and each map below it has both its ends among the modules below it.
pub record Fits (e : Entries) (mark : Heights) : Type 0 where
  pub modules : mark.modules ≤ length e.modules
  pub maps : mark.maps ≤ length e.maps
  pub sources : All (λ (f : Map). f.source ≤ mark.modules) (take mark.maps e.maps)
  pub targets : All (λ (f : Map). f.target ≤ mark.modules) (take mark.maps e.maps)

-- the entries below it
abbrev pub cut_at : Entries → Heights → Entries
cut_at e mark = record { header = e.header; modules = take mark.modules e.modules; maps = take mark.maps e.maps }

-- the place of a number in a list, counted from 0; the length where it is not there
abbrev pub place_of : ℕ → List ℕ → ℕ
place_of n [] = zero
place_of n (x ∷ xs) = if x == n then zero else suc (place_of n xs)

-- The number that a module has once those of the list `kept` stand behind the first `below`, and no others do.
abbrev pub new_number : ℕ → List ℕ → ℕ → ℕ
new_number below kept n = if nat_le n below then n else below + suc (place_of n kept)

abbrev pub renumbered : ℕ → List ℕ → Map → Map
renumbered below kept f = record { source = new_number below kept f.source; target = new_number below kept f.target; matrices = f.matrices }

-- What is kept is given by numbers past the mark, each once. The ends of the maps are below the mark or among what is kept.
pub record MayKeep (e : Entries) (mark : Heights) (modules maps : List ℕ) : Type 0 where
  pub fits : Fits e mark
  pub module_names : All (NamesModule e) modules
  pub modules_behind : All (λ n. mark.modules < n) modules
  pub modules_once : AllPairs (λ (a b : ℕ). a ≢ b) modules
  pub map_names : All (NamesMap e) maps
  pub maps_behind : All (λ n. mark.maps < n) maps
  pub maps_once : AllPairs (λ (a b : ℕ). a ≢ b) maps
  pub sources : All (λ n. ((map_at e n).source ≤ mark.modules) ⊎ Contains modules (map_at e n).source) maps
  pub targets : All (λ n. ((map_at e n).target ≤ mark.modules) ⊎ Contains modules (map_at e n).target) maps

-- the entries below the mark, and then those of these numbers in the given order
abbrev pub kept : Entries → Heights → List ℕ → List ℕ → Entries
kept e mark modules maps = record {
  header = e.header;
  modules = take mark.modules e.modules ++ map (module_at e) modules;
  maps = take mark.maps e.maps ++ map (λ n. renumbered mark.modules modules (map_at e n)) maps;
}
