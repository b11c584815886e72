-- What the tokens of a script stand for. Each definition gives the value that a token writes, or None where the token has
-- another form.
use Rattle.std.specs.Prelude.{ℕ, ◌&&◌, ◌==◌, Bool, List, [], ◌∷◌, length, slice_index, nat_lt, nat_le, nat_eq, codes, if◌then◌else◌, Some, None}
use Rattle.std.specs.List.{list_all}
use Rattle.std.specs.declared.option.Option.{Option}
use Rattle.std.specs.Cmp.Lexicographic.{pointwise}
use Rattle.quiver_paths.specs.Name.{is_name_byte}
use Rattle.path_algebra.specs.Allowed.{is_letter}
use Rattle.quiver_paths.specs.declared.names.Suffix.{Suffix}
use Rattle.quiver_paths.specs.declared.names.Suffix.TheVariants.{Whole, Map, Inv, Part}
use Rattle.quiver_paths.specs.declared.names.Reference.{Reference}
use Rattle.text_lines.specs.Parts.{parts, joined}
use Rattle.text_lines.specs.Script.{number_in}

-- the token is this word
abbrev pub is_word : List ℕ → List ℕ → Bool
is_word token word = pointwise nat_eq token word

-- 1 to 16 letters, digits and underscores
abbrev pub is_name : List ℕ → Bool
is_name token = nat_lt 0 (length token) && (nat_le (length token) 16 && list_all is_name_byte token)

-- a name of a vertex
unfoldable pub vertex_in : List ℕ → Option (List ℕ)
vertex_in token = if is_name token then Some token else None

-- a name of an arrow, of a module or of a map: one that begins with a letter
unfoldable pub name_in : List ℕ → Option (List ℕ)
name_in token = if is_name token && is_letter (slice_index token 0) then Some token else None

-- a number up to `most`
abbrev pub within : ℕ → Option ℕ → Option ℕ
within most None = None
within most (Some n) = if nat_le n most then Some n else None

abbrev pub number_to : ℕ → List ℕ → Option ℕ
number_to most token = within most (number_in token)

abbrev pub part_of : Option ℕ → Option Suffix
part_of None = None
part_of (Some k) = Some (Part k)

-- what stands behind the dot of a reference: `map`, `inv`, or a number from 1 to 256 without a zero in front
unfoldable pub suffix_in : List ℕ → Option Suffix
suffix_in token =
    if is_word token (codes "map") then Some Map
    else if is_word token (codes "inv") then Some Inv
    else if slice_index token 0 == 48 then None
    else part_of (number_to 256 token)

abbrev pub with_suffix : Option (List ℕ) → Option Suffix → Option Reference
with_suffix None s = None
with_suffix (Some n) None = None
with_suffix (Some n) (Some s) = Some (record { name = n; suffix = s })

-- a name, alone or with a dot and a suffix behind it: what stands before the first dot, and what stands behind it
abbrev pub reference_from : List (List ℕ) → Option Reference
reference_from [] = None
reference_from (n ∷ []) = with_suffix (name_in n) (Some Whole)
reference_from (n ∷ s ∷ more) = with_suffix (name_in n) (suffix_in (joined 46 (s ∷ more)))

unfoldable pub reference_in : List ℕ → Option Reference
reference_in token = reference_from (parts 46 token)
