-- Lines in the form of a script: tokens separated by spaces and tabs, a comment behind `#`, and an end that is dropped.
use Rattle.std.specs.Prelude.{ℕ, ◌-◌, Bool, ◌&&◌, ◌||◌, List, [], ◌∷◌, true, false, length, take, filter, slice_index, slice_index_or, ◌==◌, nat_lt, nat_le, if◌then◌else◌, Some, None}
use Rattle.std.specs.List.{slice_split, list_all}
use Rattle.std.specs.Char.{digit_value}
use Rattle.std.specs.Str.Parse.{digits_value}
use Rattle.std.specs.declared.option.Option.{Option}
use Rattle.text_lines.specs.Parts.{parts}

-- a space or a tab
abbrev pub is_blank : ℕ → Bool
is_blank b = (b == 32) || (b == 9)

-- printable ASCII, a space or a tab
abbrev pub is_plain : ℕ → Bool
is_plain b = (nat_le 32 b && nat_le b 126) || (b == 9)

abbrev pub is_some_word : List ℕ → Bool
is_some_word [] = false
is_some_word (b ∷ word) = true

-- the runs of other bytes between the blanks
abbrev pub words : List ℕ → List (List ℕ)
words bytes = filter is_some_word (slice_split is_blank bytes)

-- without the byte c, if that is the last
abbrev pub without_last : ℕ → List ℕ → List ℕ
without_last c bytes = if slice_index bytes (length bytes - 1) == c then take (length bytes - 1) bytes else bytes

-- without the line feed at the end and one carriage return before it; a line without a line feed stays as it is
abbrev pub script_bytes : List ℕ → List ℕ
script_bytes line =
    if slice_index line (length line - 1) == 10 then without_last 13 (take (length line - 1) line) else line

-- what stands before the comment, which begins at the first `#`
abbrev pub uncommented : List ℕ → List ℕ
uncommented bytes = slice_index_or (parts 35 bytes) 0 []

-- the tokens of a line of a script, if the bytes before its comment are plain
abbrev pub script_tokens : List ℕ → Option (List (List ℕ))
script_tokens line =
    let code = uncommented (script_bytes line) in
    if list_all is_plain code then Some (words code) else None

-- a decimal digit
abbrev pub is_digit : ℕ → Bool
is_digit b = nat_lt (digit_value b) 10

-- 1 to 10 digits
abbrev pub is_number : List ℕ → Bool
is_number word = nat_lt 0 (length word) && (nat_le (length word) 10 && list_all is_digit word)

-- the number that 1 to 10 decimal digits write; zeros may stand in front
unfoldable pub number_in : List ℕ → Option ℕ
number_in word = if is_number word then Some (digits_value 10 word) else None
