-- Names and what they are bound to.
use Rattle.std.specs.Prelude.{ℕ, ◌+◌, ◌-◌, ◌&&◌, leb, cond, List, nat_eq, Option, Some, None}
use Rattle.std.specs.Map.{lookup}
use Rattle.std.specs.Cmp.Lexicographic.{pointwise}
use Rattle.quiver_paths.specs.declared.names.Suffix.{Suffix}
use Rattle.quiver_paths.specs.declared.names.Suffix.TheVariants as suffix
use Rattle.quiver_paths.specs.declared.names.Reference.{Reference}
use Rattle.script_answers.specs.declared.bound.Bound.{Bound}
use Rattle.script_answers.specs.declared.bound.Bound.TheVariants.{Whole, Arrow, WithMap, Parts}

-- names with what they are bound to, in the order of binding; no name stands twice
abbrev pub Names : Type 0
Names = List (List ℕ × Bound)

abbrev pub bound_to : Names → List ℕ → Option Bound
bound_to names name = lookup (pointwise nat_eq name) names

-- the module that is meant by a suffix of what a name is bound to, by its number; the map
abbrev pub module_by : Bound → Suffix → Option ℕ
module_by (Whole m) suffix.Whole = Some m
module_by (Whole m) _ = None
module_by (Arrow f) _ = None
module_by (WithMap m f) suffix.Whole = Some m
module_by (WithMap m f) _ = None
module_by (Parts first parts sum f) suffix.Whole = Some sum
module_by (Parts first parts sum f) (suffix.Part k) = cond (leb 1 k && leb k parts) (Some (first + k - 1)) None
module_by (Parts first parts sum f) _ = None

abbrev pub map_by : Bound → Suffix → Option ℕ
map_by (Whole m) _ = None
map_by (Arrow f) suffix.Whole = Some f
map_by (Arrow f) _ = None
map_by (WithMap m f) suffix.Map = Some f
map_by (WithMap m f) _ = None
map_by (Parts first parts sum f) suffix.Map = Some f
map_by (Parts first parts sum f) suffix.Inv = Some (f + 1)
map_by (Parts first parts sum f) _ = None

abbrev pub through : (Bound → Suffix → Option ℕ) → Option Bound → Suffix → Option ℕ
through by None s = None
through by (Some b) s = by b s

-- the number of the module that a reference names, if it names one; of the map
abbrev pub module_named : Names → Reference → Option ℕ
module_named names r = through module_by (bound_to names r.name) r.suffix

abbrev pub map_named : Names → Reference → Option ℕ
map_named names r = through map_by (bound_to names r.name) r.suffix
