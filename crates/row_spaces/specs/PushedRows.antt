-- Rows that are gathered one after another in a list of entries.
use Rattle.std.specs.Prelude.{ℕ, ◌<◌, ◌≡◌, ◌+◌, ◌*◌, List, length, slice_index}
use Rattle.linear_algebra.specs.Field.{Gf}
use Rattle.linear_algebra.specs.Rows.{entry}
use Rattle.linear_algebra.specs.Reduced.{pivot}
use Rattle.fp_linear.specs.Slices.{AreElements}

-- The list has m rows of n elements: f r 0, f r 1, .. is row r.
pub record HasRows (q : Gf) (n m : ℕ) (f : ℕ → ℕ → ℕ) (s : List ℕ) : Type 0 where
  pub count : length s ≡ m * n
  pub at : (r j : ℕ) → r < m → j < n → slice_index s (r * n + j) ≡ f r j
  pub elements : AreElements q s

-- The list has the places of the first entries that are not zero, of the first k rows.
pub record HasLeading (rows : List (List ℕ)) (k : ℕ) (places : List ℕ) : Type 0 where
  pub count : length places ≡ k
  pub at : (i : ℕ) → i < k → slice_index places i ≡ pivot rows i

-- the entry of row r at place j of a list
abbrev pub picked_entry : List (List ℕ) → List ℕ → ℕ → ℕ → ℕ
picked_entry rows places r j = entry rows r (slice_index places j)

-- the entry in column j of the row with the number at place r of a list
abbrev pub chosen_entry : List (List ℕ) → List ℕ → ℕ → ℕ → ℕ
chosen_entry rows places r j = entry rows (slice_index places r) j
