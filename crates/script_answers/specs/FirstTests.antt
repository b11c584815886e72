-- Tests that are tried in order; the first that fails refuses.
use Rattle.std.specs.Prelude.{ℕ, Bool, true, false, leb, nat_eq, ◌&&◌, not, List, [], ◌∷◌, Option, Some, None}
use Rattle.std.specs.List.{list_any}
use Rattle.std.specs.Cmp.Lexicographic.{pointwise}
use Rattle.quiver_paths.specs.declared.names.Reference.{Reference}
use Rattle.quiver_paths.specs.declared.names.Suffix.TheVariants as suffix
use Rattle.module_types.specs.declared.Side.{Side}
use Rattle.module_types.specs.declared.Side.TheVariants.{Right, Left}
use Rattle.report_types.specs.declared.reports.Why.{Why}
use Rattle.report_types.specs.declared.reports.Why.TheVariants as why
use Rattle.report_types.specs.Limits.{unknown_limit, term_limit}
use Rattle.module_types.specs.Shapes.{most_dimension}
use Rattle.script_answers.specs.declared.bound.Bound.{Bound}
use Rattle.script_answers.specs.Names.{Names, bound_to, module_named, map_named}

-- each test is the refusal that it gives, or none: the first refusal
abbrev pub first_of : List (Option Why) → Option Why
first_of [] = None
first_of (None ∷ tests) = first_of tests
first_of (Some w ∷ tests) = Some w

abbrev pub unless : Bool → Why → Option Why
unless true w = None
unless false w = Some w

-- ---- names

abbrev pub taken : Option Bound → List ℕ → Option Why
taken None name = None
taken (Some b) name = Some (why.NameTaken name)

-- a new name; a second one behind the first
abbrev pub is_new : Names → List ℕ → Option Why
is_new names name = taken (bound_to names name) name

abbrev pub is_second : Names → List ℕ → List ℕ → Option Why
is_second names first name = first_of (is_new names name ∷ unless (not (pointwise nat_eq name first)) (why.NameTaken name) ∷ [])

-- a reference to a module, and to a map: else its whole text is unknown
abbrev pub unknown : Option ℕ → Reference → Option Why
unknown None r = Some (why.UnknownName r)
unknown (Some n) r = None

abbrev pub is_module : Names → Reference → Option Why
is_module names r = unknown (module_named names r) r

abbrev pub is_map : Names → Reference → Option Why
is_map names r = unknown (map_named names r) r

-- names of vertices or arrows, in the order of writing
abbrev pub are_among : List (List ℕ) → List (List ℕ) → Option Why
are_among known [] = None
are_among known (n ∷ names) =
    first_of (unless (list_any (pointwise nat_eq n) known) (why.UnknownName record { name = n; suffix = suffix.Whole }) ∷ are_among known names ∷ [])

-- ---- sides, shapes and limits

abbrev pub same_side : Side → Side → Bool
same_side Right Right = true
same_side Right Left = false
same_side Left Right = false
same_side Left Left = true

abbrev pub all_different : List (List ℕ) → Bool
all_different [] = true
all_different (n ∷ names) = not (list_any (pointwise nat_eq n) names) && all_different names

-- the dimension of a module to be made; the unknowns of a space of homomorphisms; the dimensions of a term and of its injective modules
abbrev pub dim_limit : ℕ → Option Why
dim_limit dim = unless (leb dim most_dimension) (why.DimLimit dim)

abbrev pub hom_limit : ℕ → Option Why
hom_limit unknowns = unless (leb unknowns unknown_limit) (why.HomLimit unknowns)

abbrev pub term_limit_at : ℕ → ℕ → Option Why
term_limit_at step dim = unless (leb dim term_limit) (why.TermLimit step dim)

abbrev pub dual_limit_at : ℕ → ℕ → Option Why
dual_limit_at step dim = unless (leb dim term_limit) (why.DualLimit step dim)
