-- The statements of a script by their first words and their arguments. A `rep` and a `map` begin without lines `at`.
use Rattle.std.specs.Prelude.{ℕ, List, [], ◌∷◌, codes, if◌then◌else◌, Some, None}
use Rattle.std.specs.declared.option.Option.{Option}
use Rattle.quiver_paths.specs.declared.names.Reference.{Reference}
use Rattle.script_types.specs.declared.Standard.{Standard}
use Rattle.script_types.specs.declared.Standard.TheVariants.{Simple, Projective, Injective}
use Rattle.script_types.specs.declared.StatementKind.{StatementKind}
use Rattle.script_types.specs.declared.StatementKind.TheVariants as kind
use Rattle.script_lang.specs.Tokens.{is_word, vertex_in, name_in, number_to, reference_in}
use Rattle.script_lang.specs.Arguments.{two_of, three_of, four_of, numbers_in}

-- ---- a new name and a reference

abbrev pub NameReference : Type 0
NameReference = List ℕ × Reference

abbrev pub name_reference : Option (List ℕ) → Option Reference → Option NameReference
name_reference None a = None
name_reference (Some n) None = None
name_reference (Some n) (Some a) = Some (n, a)

abbrev pub unary_of : Option (List ℕ × List ℕ) → Option NameReference
unary_of None = None
unary_of (Some ts) = name_reference (name_in ts.0) (reference_in ts.1)

-- `N A`
abbrev pub unary_in : List (List ℕ) → Option NameReference
unary_in args = unary_of (two_of args)

-- which statement of a new name and a reference a word begins
abbrev pub unary_kind : List ℕ → NameReference → Option StatementKind
unary_kind word x =
    if is_word word (codes "kernel") then Some (kind.Kernel x.0 x.1)
    else if is_word word (codes "cokernel") then Some (kind.Cokernel x.0 x.1)
    else if is_word word (codes "radical") then Some (kind.Radical x.0 x.1)
    else if is_word word (codes "dual") then Some (kind.Dual x.0 x.1)
    else if is_word word (codes "transpose") then Some (kind.Transpose x.0 x.1)
    else if is_word word (codes "tau") then Some (kind.Tau x.0 x.1)
    else if is_word word (codes "taui") then Some (kind.Taui x.0 x.1)
    else None

abbrev pub unary_from : List ℕ → Option NameReference → Option StatementKind
unary_from word None = None
unary_from word (Some x) = unary_kind word x

-- ---- the others

abbrev pub standard_in : List ℕ → Option Standard
standard_in token =
    if is_word token (codes "simple") then Some Simple
    else if is_word token (codes "projective") then Some Projective
    else if is_word token (codes "injective") then Some Injective
    else None

abbrev pub std_kind : Option (List ℕ) → Option Standard → Option (List ℕ) → Option StatementKind
std_kind None which vertex = None
std_kind (Some n) None vertex = None
std_kind (Some n) (Some w) None = None
std_kind (Some n) (Some w) (Some v) = Some (kind.Std n w v)

abbrev pub std_of : Option (List ℕ × List ℕ × List ℕ) → Option StatementKind
std_of None = None
std_of (Some ts) = std_kind (name_in ts.0) (standard_in ts.1) (vertex_in ts.2)

abbrev pub sum_kind : Option (List ℕ) → Option Reference → Option Reference → Option StatementKind
sum_kind None a b = None
sum_kind (Some n) None b = None
sum_kind (Some n) (Some a) None = None
sum_kind (Some n) (Some a) (Some b) = Some (kind.Sum n a b)

abbrev pub sum_of : Option (List ℕ × List ℕ × List ℕ) → Option StatementKind
sum_of None = None
sum_of (Some ts) = sum_kind (name_in ts.0) (reference_in ts.1) (reference_in ts.2)

abbrev pub map_kind : Option (List ℕ) → Option Reference → Option Reference → Option StatementKind
map_kind None a b = None
map_kind (Some n) None b = None
map_kind (Some n) (Some a) None = None
map_kind (Some n) (Some a) (Some b) = Some (kind.Map n a b [])

abbrev pub map_of : Option (List ℕ × List ℕ × List ℕ) → Option StatementKind
map_of None = None
map_of (Some ts) = map_kind (name_in ts.0) (reference_in ts.1) (reference_in ts.2)

abbrev pub hom_kind : Option Reference → Option Reference → Option StatementKind
hom_kind None b = None
hom_kind (Some a) None = None
hom_kind (Some a) (Some b) = Some (kind.Hom a b)

abbrev pub hom_of : Option (List ℕ × List ℕ) → Option StatementKind
hom_of None = None
hom_of (Some ts) = hom_kind (reference_in ts.0) (reference_in ts.1)

abbrev pub resolve_kind : Option Reference → Option ℕ → Option StatementKind
resolve_kind None n = None
resolve_kind (Some a) None = None
resolve_kind (Some a) (Some n) = Some (kind.Resolve a n)

-- `A K`, K from 0 to 16
abbrev pub resolve_of : Option (List ℕ × List ℕ) → Option StatementKind
resolve_of None = None
resolve_of (Some ts) = resolve_kind (reference_in ts.0) (number_to 16 ts.1)

abbrev pub ext_kind : Option ℕ → Option Reference → Option Reference → Option StatementKind
ext_kind None a b = None
ext_kind (Some n) None b = None
ext_kind (Some n) (Some a) None = None
ext_kind (Some n) (Some a) (Some b) = Some (kind.Ext n a b)

-- `K A B`, K from 0 to 15
abbrev pub ext_of : Option (List ℕ × List ℕ × List ℕ) → Option StatementKind
ext_of None = None
ext_of (Some ts) = ext_kind (number_to 15 ts.0) (reference_in ts.1) (reference_in ts.2)

abbrev pub decompose_kind : Option Reference → Option (List ℕ) → Option StatementKind
decompose_kind None n = None
decompose_kind (Some a) None = None
decompose_kind (Some a) (Some n) = Some (kind.Decompose a n)

-- `A as X`
abbrev pub decompose_of : Option (List ℕ × List ℕ × List ℕ) → Option StatementKind
decompose_of None = None
decompose_of (Some ts) =
    if is_word ts.1 (codes "as") then decompose_kind (reference_in ts.0) (name_in ts.2) else None

abbrev pub ars_kind : Option Reference → Option (List ℕ) → Option (List ℕ) → Option StatementKind
ars_kind None n e = None
ars_kind (Some a) None e = None
ars_kind (Some a) (Some n) None = None
ars_kind (Some a) (Some n) (Some e) = Some (kind.Ars a n e)

-- `A as N E`
abbrev pub ars_of : Option (List ℕ × List ℕ × List ℕ × List ℕ) → Option StatementKind
ars_of None = None
ars_of (Some ts) =
    if is_word ts.1 (codes "as") then ars_kind (reference_in ts.0) (name_in ts.2) (name_in ts.3) else None

-- the statements of one line, and the first line of a `map`
abbrev pub plain_in : List ℕ → List (List ℕ) → Option StatementKind
plain_in word args =
    if is_word word (codes "std") then std_of (three_of args)
    else if is_word word (codes "sum") then sum_of (three_of args)
    else if is_word word (codes "map") then map_of (three_of args)
    else if is_word word (codes "hom") then hom_of (two_of args)
    else if is_word word (codes "resolve") then resolve_of (two_of args)
    else if is_word word (codes "ext") then ext_of (three_of args)
    else if is_word word (codes "decompose") then decompose_of (three_of args)
    else if is_word word (codes "ars") then ars_of (four_of args)
    else unary_from word (unary_in args)

-- ---- the first line of a `rep`: a new name and at least one dimension, each at most 65,535

abbrev pub rep_kind : Option (List ℕ) → Option (List ℕ) → Option StatementKind
rep_kind None dims = None
rep_kind (Some n) None = None
rep_kind (Some n) (Some []) = None
rep_kind (Some n) (Some (d ∷ dims)) = Some (kind.Rep n (d ∷ dims) [])

abbrev pub rep_in : List (List ℕ) → Option StatementKind
rep_in [] = None
rep_in (t ∷ ts) = rep_kind (name_in t) (numbers_in 65535 ts)
