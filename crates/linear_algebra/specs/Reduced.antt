-- Reduced row form. (Any textbook of linear algebra.)
use Rattle.std.specs.Prelude.{ℕ, suc, ◌<◌, ◌≤◌, ◌≡◌, ◌≢◌, List, [], ◌∷◌, length, map, take, slice_index, slice_index_or, if◌then◌else◌, ◌==◌}
use Rattle.linear_algebra.specs.Field.{Gf, sub}
use Rattle.linear_algebra.specs.Rows.{list_of, entry, zeros, times, SameSpan}

-- the place of the first entry that is not zero; the length where there is none
unfoldable pub leading : List ℕ → ℕ
leading [] = 0
leading (a ∷ x) = if a == 0 then suc (leading x) else 0

-- the place of the first entry of row i that is not zero
abbrev pub pivot : List (List ℕ) → ℕ → ℕ
pivot rows i = leading (slice_index_or rows i [])

-- No row of this matrix with n columns is zero, each row's first nonzero entry is 1 and stands further right than those above, and the
-- column of each such entry is otherwise zero.
pub record IsReduced (n : ℕ) (rows : List (List ℕ)) : Type 0 where
  pub nonzero : (i : ℕ) → i < length rows → pivot rows i < n
  pub one : (i : ℕ) → i < length rows → entry rows i (pivot rows i) ≡ 1
  pub further : (i k : ℕ) → i < k → k < length rows → pivot rows i < pivot rows k
  pub cleared : (i k : ℕ) → i < length rows → k < length rows → k ≢ i → entry rows k (pivot rows i) ≡ 0

-- the pivot columns of a matrix in reduced row form, one for each row
unfoldable pub pivots_of : List (List ℕ) → List ℕ
pivots_of rows = map leading rows

-- The matrix old with n columns is brought into reduced row form in place: the first `rank` rows of new are the reduced row form of the row
-- space of old, the other rows are zero, and the first `rank` places of pivots are the pivot columns.
pub record ReducesTo (q : Gf) (n : ℕ) (old new : List (List ℕ)) (pivots : List ℕ) (rank : ℕ) : Type 0 where
  pub same_count : length new ≡ length old
  pub fits : rank ≤ length new
  pub reduced : IsReduced n (take rank new)
  pub span : SameSpan q n old (take rank new)
  pub rest : (i : ℕ) → rank ≤ i → i < length new → slice_index_or new i [] ≡ zeros n
  pub columns : take rank pivots ≡ pivots_of (take rank new)

-- the entries of a row at the pivots
unfoldable pub at_pivots : List (List ℕ) → List ℕ → List ℕ
at_pivots rows x = list_of (length rows) (λ i. slice_index x (pivot rows i))

-- what is left of a row with n entries when the pivot columns of a matrix in reduced row form are cleared
unfoldable pub remainder : Gf → ℕ → List (List ℕ) → List ℕ → List ℕ
remainder q n rows x = list_of n (λ j. sub q (slice_index x j) (slice_index (times q n (at_pivots rows x) rows) j))
