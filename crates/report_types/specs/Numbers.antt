-- Modules, maps and claims by their numbers, which count from 1 through the records in their order. Each number is read: what is not there is empty.
use Rattle.std.specs.Prelude.{ℕ, zero, suc, ◌≤◌, ◌<◌, List, [], ◌∷◌, ◌++◌, length, Option, None, Some, slice_get, slice_index_or}
use Rattle.path_algebra.specs.Derivations.{IsNumber}
use Rattle.module_types.specs.declared.Module.{Module}
use Rattle.module_types.specs.declared.Map.{Map}
use Rattle.module_types.specs.declared.Side.TheVariants.{Right}
use Rattle.claim_conditions.specs.Modules.{PrintedMap}
use Rattle.report_types.specs.declared.claims.Claim.{Claim}
use Rattle.report_types.specs.declared.claims.Claim.TheVariants as claim
use Rattle.report_types.specs.declared.claims.Record.{Record}

-- the modules of some records, those of one record behind those of the record before; the maps
abbrev pub modules_of : List Record → List Module
modules_of [] = []
modules_of (r ∷ rest) = r.modules ++ modules_of rest

abbrev pub maps_of : List Record → List Map
maps_of [] = []
maps_of (r ∷ rest) = r.maps ++ maps_of rest

-- item n of a list, counted from 1
abbrev pub numbered : {X : Type 0} → X → List X → ℕ → X
numbered missing items zero = missing
numbered missing items (suc i) = slice_index_or items i missing

abbrev pub no_module : Module
no_module = record { side = Right; dims = []; matrices = [] }

abbrev pub module_of : List Record → ℕ → Module
module_of records n = numbered no_module (modules_of records) n

abbrev pub no_map : Map
no_map = record { source = zero; target = zero; matrices = [] }

abbrev pub map_of : List Record → ℕ → Map
map_of records n = numbered no_map (maps_of records) n

abbrev pub record_of : List Record → ℕ → Option Record
record_of records zero = None
record_of records (suc i) = slice_get records i

abbrev pub claim_in : Option Record → Claim
claim_in None = claim.Module zero
claim_in (Some r) = r.claim

abbrev pub claim_of : List Record → ℕ → Claim
claim_of records n = claim_in (record_of records n)

-- a map with the modules that it names
abbrev pub printed : List Record → Map → PrintedMap
printed records f = record { source = module_of records f.source; target = module_of records f.target; matrices = f.matrices }

-- The number of a module or of a map of these records; that of a claim before the last of them.
abbrev pub NamesModule : List Record → ℕ → Type 0
NamesModule records n = IsNumber (length (modules_of records)) n

abbrev pub NamesMap : List Record → ℕ → Type 0
NamesMap records n = IsNumber (length (maps_of records)) n

pub record NamesClaim (records : List Record) (n : ℕ) : Type 0 where
  pub from : 1 ≤ n
  pub earlier : n < length records
