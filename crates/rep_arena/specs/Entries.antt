-- What contracts see of a session and of an arena: the header that it was made for, and its modules and maps, which are numbered from 1.
-- (Assem, Simson, Skowroński, volume 1, chapter III, 1.)
use Rattle.std.specs.Prelude.{ℕ, zero, suc, ◌<◌, ◌-◌, ◌^◌, ◌∷◌, ◌++◌, List, [], length, All, slice_index_or}
use Rattle.path_algebra.specs.declared.Header.{Header}
use Rattle.path_algebra.specs.Allowed.{IsAllowed}
use Rattle.path_algebra.specs.Derivations.{IsNumber}
use Rattle.representations.specs.Quiver.{Quiver}
use Rattle.module_types.specs.Algebras.{algebra_at}
use Rattle.module_types.specs.declared.Module.{Module}
use Rattle.module_types.specs.declared.Map.{Map}
use Rattle.module_types.specs.declared.Side.TheVariants.{Right}
use Rattle.module_faults.specs.ModuleFaults.{IsSmallModule}
use Rattle.module_faults.specs.MapFaults.{IsSmallMap}

pub record Entries : Type 0 where
  pub header : Header
  pub modules : List Module
  pub maps : List Map

-- without an entry
abbrev pub no_entries : Header → Entries
no_entries h = record { header = h; modules = []; maps = [] }

-- item n of a list, counted from 1
abbrev pub numbered : {X : Type 0} → X → List X → ℕ → X
numbered missing items zero = missing
numbered missing items (suc i) = slice_index_or items i missing

abbrev pub no_module : Module
no_module = record { side = Right; dims = []; matrices = [] }

abbrev pub no_map : Map
no_map = record { source = zero; target = zero; matrices = [] }

-- the module and the map with a number; what is not there is empty
abbrev pub module_at : Entries → ℕ → Module
module_at e n = numbered no_module e.modules n

abbrev pub map_at : Entries → ℕ → Map
map_at e n = numbered no_map e.maps n

abbrev pub NamesModule : Entries → ℕ → Type 0
NamesModule e n = IsNumber (length e.modules) n

abbrev pub NamesMap : Entries → ℕ → Type 0
NamesMap e n = IsNumber (length e.maps) n

-- the quiver that a module is read over: that of its side
abbrev pub quiver_at : Entries → ℕ → Quiver
quiver_at e n = (algebra_at (module_at e n).side e.header).quiver

-- A map between modules that stand: a homomorphism from the one to the other.
pub record IsMapAmong (e : Entries) (f : Map) : Type 0 where
  pub source : NamesModule e f.source
  pub target : NamesModule e f.target
  pub small : IsSmallMap e.header (module_at e f.source) (module_at e f.target) f.matrices

-- What each session and each arena keeps: the header is allowed, each module is one over it, of at most the largest dimension, and each map is a homomorphism
-- between modules that stand. The place after the last entry of a list is a number below 2^32.
pub record AreLawful (e : Entries) : Type 0 where
  pub allowed : IsAllowed e.header
  pub modules : All (IsSmallModule e.header) e.modules
  pub maps : All (IsMapAmong e) e.maps
  pub few_modules : length e.modules < 2 ^ 32 - 1
  pub few_maps : length e.maps < 2 ^ 32 - 1

-- with an entry more, behind the others
abbrev pub with_module : Entries → Module → Entries
with_module e m = record { header = e.header; modules = e.modules ++ m ∷ []; maps = e.maps }

abbrev pub with_map : Entries → Map → Entries
with_map e f = record { header = e.header; modules = e.modules; maps = e.maps ++ f ∷ [] }
