-- What a statement sees of the work before it.
use Rattle.std.specs.Prelude.{ℕ, zero, List, length, Option, Some, None}
use Rattle.quiver_paths.specs.declared.names.Reference.{Reference}
use Rattle.quiver_paths.specs.declared.Path.{Path}
use Rattle.path_algebra.specs.declared.Header.{Header}
use Rattle.module_types.specs.declared.Module.{Module}
use Rattle.module_types.specs.declared.Map.{Map}
use Rattle.script_types.specs.declared.Script.{Script}
use Rattle.report_types.specs.declared.claims.Record.{Record}
use Rattle.report_types.specs.Numbers.{modules_of, maps_of, numbered, no_module, no_map}
use Rattle.report_types.specs.WordDimensions.{printed_words}
use Rattle.script_answers.specs.Names.{Names, module_named, map_named}

-- The algebra, the words that claim 1 prints, the names bound so far, the modules and the maps printed so far, and the number of claims printed so far.
pub record Setting : Type 0 where
  pub header : Header
  pub words : List Path
  pub names : Names
  pub modules : List Module
  pub maps : List Map
  pub claims : ℕ

-- behind these records, with these names bound
abbrev pub setting : Script → Names → List Record → Setting
setting script names records = record {
  header = script.header;
  words = printed_words records;
  names = names;
  modules = modules_of records;
  maps = maps_of records;
  claims = length records;
}

-- a number, zero where there is none
abbrev pub number : Option ℕ → ℕ
number None = zero
number (Some n) = n

-- the number of the module that a reference names, and the module; the map
abbrev pub number_of : Setting → Reference → ℕ
number_of at r = number (module_named at.names r)

abbrev pub module_of : Setting → Reference → Module
module_of at r = numbered no_module at.modules (number_of at r)

abbrev pub map_number_of : Setting → Reference → ℕ
map_number_of at r = number (map_named at.names r)

abbrev pub map_of : Setting → Reference → Map
map_of at r = numbered no_map at.maps (map_number_of at r)
