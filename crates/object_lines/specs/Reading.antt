-- What the readers of pieces of a line answer.
use Rattle.std.specs.Prelude.{ℕ, ◌≡◌, ◌<◌, ◌≤◌, List, [], ◌∷◌, ◌++◌, ◌==◌, if◌then◌else◌, length, map, All, codes}
use Rattle.std.specs.List.{concat}
use Rattle.linear_algebra.specs.Field.{Gf, order}
use Rattle.linear_algebra.specs.Rows.{IsRow}
use Rattle.quiver_paths.specs.declared.Quiver.{Quiver}
use Rattle.quiver_paths.specs.Quiver.{vertex_count}
use Rattle.object_lines.specs.Spelling.{numbers_form, matrix_form}

-- so many items, one for each token, taken behind those that were there
pub record Takes (spell : ℕ → List ℕ) (IsOne : ℕ → Type 0) (count : ℕ) (old new : List ℕ) (tokens rest : List (List ℕ)) : Type 0 where
  pub taken : List ℕ
  pub counted : length taken ≡ count
  pub all : All IsOne taken
  pub behind : new ≡ old ++ taken
  pub spelled : tokens ≡ map spell taken ++ rest

-- the tokens do not begin with so many such items
abbrev pub BeginsOtherwise : (spell : ℕ → List ℕ) (IsOne : ℕ → Type 0) (count : ℕ) (tokens : List (List ℕ)) → Type 0
BeginsOtherwise spell IsOne count tokens = (xs : List ℕ) (rest : List (List ℕ)) → length xs ≡ count → All IsOne xs → ¬ (tokens ≡ map spell xs ++ rest)

-- an element of the field
abbrev pub IsElement : Gf → ℕ → Type 0
IsElement q e = e < order q

-- a number that is not larger, and a place among the vertices
abbrev pub IsAtMost : ℕ → ℕ → Type 0
IsAtMost most n = n ≤ most

abbrev pub IsVertex : Quiver → ℕ → Type 0
IsVertex Q v = v < vertex_count Q

-- a row, spelled by all tokens, that was added behind the entries that were there
pub record AddsRow (q : Gf) (width : ℕ) (spell : List ℕ → List (List ℕ)) (old new : List ℕ) (tokens : List (List ℕ)) : Type 0 where
  pub row : List ℕ
  pub is_row : IsRow q width row
  pub behind : new ≡ old ++ row
  pub spelled : tokens ≡ spell row

-- what stands before row i of a matrix, counted from 0
abbrev pub slash_before : ℕ → List (List ℕ)
slash_before i = if i == 0 then [] else (codes "/" ∷ [])

-- row i of a matrix in front of the tokens, with what stands before it, that was added behind the entries that were there
pub record TakesRow (q : Gf) (i width : ℕ) (old new : List ℕ) (tokens rest : List (List ℕ)) : Type 0 where
  pub row : List ℕ
  pub is_row : IsRow q width row
  pub behind : new ≡ old ++ row
  pub spelled : tokens ≡ (slash_before i ++ numbers_form row) ++ rest

abbrev pub LacksRow : (q : Gf) (i width : ℕ) (tokens : List (List ℕ)) → Type 0
LacksRow q i width tokens = (row : List ℕ) (rest : List (List ℕ)) → IsRow q width row → ¬ (tokens ≡ (slash_before i ++ numbers_form row) ++ rest)

-- so many rows, by their entries one row behind the other, in front of the tokens
pub record TakesRows (q : Gf) (count width : ℕ) (entries : List ℕ) (tokens rest : List (List ℕ)) : Type 0 where
  pub taken : List (List ℕ)
  pub counted : length taken ≡ count
  pub all : All (IsRow q width) taken
  pub entries_are : entries ≡ concat taken
  pub spelled : tokens ≡ matrix_form taken ++ rest

abbrev pub LacksRows : (q : Gf) (count width : ℕ) (tokens : List (List ℕ)) → Type 0
LacksRows q count width tokens = (rows : List (List ℕ)) (rest : List (List ℕ)) → length rows ≡ count → All (IsRow q width) rows → ¬ (tokens ≡ matrix_form rows ++ rest)
