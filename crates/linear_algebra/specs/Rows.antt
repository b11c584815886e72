-- Rows and matrices as lists of numbers, for code. A row vector is the list of its entries, a matrix the list of its rows; matrices act on
-- rows from the right. A matrix may have no rows, so the number of columns is given wherever it matters. Entries past the end are zero.
-- (Any textbook of linear algebra.)
use Rattle.std.specs.Prelude.{ℕ, ◌<◌, ◌≡◌, ◌+◌, ◌*◌, List, [], length, map, slice_index, slice_index_or, if◌then◌else◌, ◌==◌}
use Rattle.std.specs.List.{range_with_len}
use Rattle.linear_algebra.specs.Field.{Gf, order, mul}
use Rattle.linear_algebra.specs.Sums.{sum_to}

-- the list f 0, f 1, .., f (n − 1)
unfoldable pub list_of : {X : Type 0} → ℕ → (ℕ → X) → List X
list_of n f = map f (range_with_len 0 n)

-- the entry in row i and column j
unfoldable pub entry : List (List ℕ) → ℕ → ℕ → ℕ
entry rows i j = slice_index (slice_index_or rows i []) j

-- x is a row vector of n elements of the field
pub record IsRow (q : Gf) (n : ℕ) (x : List ℕ) : Type 0 where
  pub count : length x ≡ n
  pub small : (j : ℕ) → slice_index x j < order q

-- a matrix over the field with m rows and n columns
pub record IsGrid (q : Gf) (m n : ℕ) (rows : List (List ℕ)) : Type 0 where
  pub count : length rows ≡ m
  pub width : (i : ℕ) → i < m → length (slice_index_or rows i []) ≡ n
  pub small : (i j : ℕ) → entry rows i j < order q

-- the rows of a slice that holds m rows of n entries one after another
unfoldable pub rows_of : ℕ → ℕ → List ℕ → List (List ℕ)
rows_of m n s = list_of m (λ i. list_of n (λ j. slice_index s (i * n + j)))

-- the zero row
unfoldable pub zeros : ℕ → List ℕ
zeros n = list_of n (λ _. 0)

-- the row of length n with 1 at place i and zeros elsewhere
unfoldable pub unit : ℕ → ℕ → List ℕ
unit n i = list_of n (λ j. if i == j then 1 else 0)

-- the identity matrix
unfoldable pub identity : ℕ → List (List ℕ)
identity n = list_of n (unit n)

-- x · rows, where rows is a matrix with n columns: the linear combination of the rows with the coefficients x
unfoldable pub times : Gf → ℕ → List ℕ → List (List ℕ) → List ℕ
times q n x rows = list_of n (λ j. sum_to q (length rows) (λ i. mul q (slice_index x i) (entry rows i j)))

-- the product a · b, where b has n columns
unfoldable pub product : Gf → ℕ → List (List ℕ) → List (List ℕ) → List (List ℕ)
product q n a b = map (λ x. times q n x b) a

-- the transposed matrix of one with m rows and n columns
unfoldable pub transposed : ℕ → ℕ → List (List ℕ) → List (List ℕ)
transposed m n rows = list_of n (λ j. list_of m (λ i. entry rows i j))

-- x is a linear combination of the rows, which have n entries each
abbrev pub IsInSpan : Gf → ℕ → List (List ℕ) → List ℕ → Type 0
IsInSpan q n rows x = (c : List ℕ) × (times q n c rows ≡ x)

-- two lists of rows with n entries have the same linear combinations
pub record SameSpan (q : Gf) (n : ℕ) (a b : List (List ℕ)) : Type 0 where
  pub forth : (x : List ℕ) → IsInSpan q n a x → IsInSpan q n b x
  pub back : (x : List ℕ) → IsInSpan q n b x → IsInSpan q n a x
