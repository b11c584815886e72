-- A list of bytes cut at one byte: the names of a path at its points, the tokens of a line at its single spaces.
use Rattle.std.specs.Prelude.{◌≡◌, ℕ, List, All, false, ◌==◌}
use Rattle.std.specs.List.{slice_split, join_with_byte}

-- the parts between the bytes c, in order: one more than there are of c, and a part may be empty
abbrev pub parts : ℕ → List ℕ → List (List ℕ)
parts c bytes = slice_split (λ b. b == c) bytes

-- the parts in a row, with one byte c between each two
abbrev pub joined : ℕ → List (List ℕ) → List ℕ
joined c pieces = join_with_byte c pieces

-- no byte is c
abbrev pub Lacks : ℕ → List ℕ → Type 0
Lacks c bytes = All (λ b. (b == c) ≡ false) bytes

-- the tokens of a line whose tokens are separated by single spaces
abbrev pub tokens : List ℕ → List (List ℕ)
tokens line = parts 32 line

-- the line of these tokens
abbrev pub spaced : List (List ℕ) → List ℕ
spaced pieces = joined 32 pieces
