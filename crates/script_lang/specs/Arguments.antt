-- The arguments of a line of a script, which are the tokens behind its first.
use Rattle.std.specs.Prelude.{ℕ, Bool, List, [], ◌∷◌, codes, Some, None}
use Rattle.std.specs.List.{slice_split}
use Rattle.std.specs.declared.option.Option.{Option}
use Rattle.script_lang.specs.Tokens.{is_word, number_to}

-- exactly one, two, three, four of them
abbrev pub one_of : List (List ℕ) → Option (List ℕ)
one_of [] = None
one_of (a ∷ []) = Some a
one_of (a ∷ b ∷ more) = None

abbrev pub two_of : List (List ℕ) → Option (List ℕ × List ℕ)
two_of [] = None
two_of (a ∷ []) = None
two_of (a ∷ b ∷ []) = Some (a, b)
two_of (a ∷ b ∷ c ∷ more) = None

abbrev pub three_of : List (List ℕ) → Option (List ℕ × List ℕ × List ℕ)
three_of [] = None
three_of (a ∷ []) = None
three_of (a ∷ b ∷ []) = None
three_of (a ∷ b ∷ c ∷ []) = Some (a, b, c)
three_of (a ∷ b ∷ c ∷ d ∷ more) = None

abbrev pub four_of : List (List ℕ) → Option (List ℕ × List ℕ × List ℕ × List ℕ)
four_of [] = None
four_of (a ∷ []) = None
four_of (a ∷ b ∷ []) = None
four_of (a ∷ b ∷ c ∷ []) = None
four_of (a ∷ b ∷ c ∷ d ∷ []) = Some (a, b, c, d)
four_of (a ∷ b ∷ c ∷ d ∷ e ∷ more) = None

-- an item before the items, if both are there
abbrev pub before : {X : Type 0} → Option X → Option (List X) → Option (List X)
before None xs = None
before (Some x) None = None
before (Some x) (Some xs) = Some (x ∷ xs)

-- each is a number up to `most`
abbrev pub numbers_in : ℕ → List (List ℕ) → Option (List ℕ)
numbers_in most [] = Some []
numbers_in most (t ∷ ts) = before (number_to most t) (numbers_in most ts)

abbrev pub is_slash : List ℕ → Bool
is_slash token = is_word token (codes "/")

-- at least one number up to `most`
abbrev pub row_in : ℕ → List (List ℕ) → Option (List ℕ)
row_in most [] = None
row_in most (t ∷ ts) = numbers_in most (t ∷ ts)

abbrev pub rows_in : ℕ → List (List (List ℕ)) → Option (List (List ℕ))
rows_in most [] = Some []
rows_in most (row ∷ rows) = before (row_in most row) (rows_in most rows)

-- rows of numbers up to `most`, with a `/` between each two; no token is the matrix without rows
abbrev pub matrix_in : ℕ → List (List ℕ) → Option (List (List ℕ))
matrix_in most [] = Some []
matrix_in most (t ∷ ts) = rows_in most (slice_split is_slash (t ∷ ts))
