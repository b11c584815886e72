-- A row over all words that has its entries at the places of some of them.
use Rattle.std.specs.Prelude.{ℕ, ◌≡◌, ◌<◌, List, length, slice_index_or, Contains}

-- the entry at the j-th of the places
abbrev pub entry_at_place : (places row : List ℕ) → ℕ → ℕ
entry_at_place places row j = slice_index_or row (slice_index_or places j 0) 0

-- at the places the row has these entries, and it is zero elsewhere
pub record ArePlaced (places row : List ℕ) (entries : ℕ → ℕ) : Type 0 where
  pub there : (j : ℕ) → j < length places → entry_at_place places row j ≡ entries j
  pub elsewhere : (k : ℕ) → (Contains places k → ⊥) → slice_index_or row k 0 ≡ 0
