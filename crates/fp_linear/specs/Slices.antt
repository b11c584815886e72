-- Slices that hold a matrix row by row, and what a write to a part of a slice leaves.
use Rattle.std.specs.Prelude.{ℕ, ◌<◌, ◌≤◌, ◌≡◌, ◌≢◌, ◌+◌, ◌*◌, List, length, slice_index}
use Rattle.linear_algebra.specs.Field.{Gf, order, add, mul}
use Rattle.linear_algebra.specs.Rows.{list_of}
use Rattle.fp_linear.specs.Tables.{letter}

-- the entry in row i and column j of a slice that holds rows of n entries one after another
unfoldable pub cell : ℕ → List ℕ → ℕ → ℕ → ℕ
cell n s i j = slice_index s (i * n + j)

-- all numbers of the slice are elements of the field
pub record AreElements (q : Gf) (s : List ℕ) : Type 0 where
  pub small : (k : ℕ) → slice_index s k < order q

-- new is old, but for the `count` places from `at` on, where g 0, g 1, .. stand
pub record IsWritten (old new : List ℕ) (at count : ℕ) (g : ℕ → ℕ) : Type 0 where
  pub within : (j : ℕ) → j < count → slice_index new (at + j) ≡ g j
  pub before : (k : ℕ) → k < at → slice_index new k ≡ slice_index old k
  pub after : (k : ℕ) → at + count ≤ k → slice_index new k ≡ slice_index old k

-- the `count` places from a on and those from b on have none in common
pub record AreApart (a b count : ℕ) : Type 0 where
  pub apart : (i j : ℕ) → i < count → j < count → a + i ≢ b + j

-- what stands at target + j once `factor` times what stands at source + j is added to it
abbrev pub added : Gf → ℕ → ℕ → ℕ → List ℕ → ℕ → ℕ
added q factor source target s j = add q (slice_index s (target + j)) (mul q factor (slice_index s (source + j)))

-- the row `target` plus `factor` times the row `source`
unfoldable pub plus_multiple : Gf → ℕ → List ℕ → List ℕ → List ℕ
plus_multiple q factor source target = list_of (length target) (λ j. add q (slice_index target j) (mul q factor (slice_index source j)))

-- to the first k places of old `factor` times those of the source are added, the others stay
pub record HasAdded (q : Gf) (factor : ℕ) (source old new : List ℕ) (k : ℕ) : Type 0 where
  pub done : (j : ℕ) → j < k → slice_index new j ≡ add q (slice_index old j) (mul q factor (slice_index source j))
  pub rest : (j : ℕ) → k ≤ j → slice_index new j ≡ slice_index old j

-- the products of a number with each element of the field, in order
pub record IsRowOfProducts (q : Gf) (factor : ℕ) (s : List ℕ) : Type 0 where
  pub count : length s ≡ order q
  pub products : (b : ℕ) → b < order q → slice_index s b ≡ mul q factor b

-- the letters of the sums of each element and the product of a number with each, row by row
pub record HasSums (q : Gf) (factor : ℕ) (s : List ℕ) : Type 0 where
  pub count : length s ≡ order q * order q
  pub sums : (a b : ℕ) → a < order q → b < order q → slice_index s (a * order q + b) ≡ letter (add q a (mul q factor b))

-- `factor` times what stands at target + j
abbrev pub scaled : Gf → ℕ → ℕ → List ℕ → ℕ → ℕ
scaled q factor target s j = mul q factor (slice_index s (target + j))

-- what stands at from + j
abbrev pub copied : ℕ → List ℕ → ℕ → ℕ
copied from s j = slice_index s (from + j)
