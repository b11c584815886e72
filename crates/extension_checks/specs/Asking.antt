-- Rows of a slice as equations on a row of unknowns: that they ask what rows of a matrix ask. Two matrices whose rows ask the same have the same span.
-- (Any textbook of linear algebra.)
use Rattle.std.specs.Prelude.{ℕ, ◌<◌, ◌≤◌, ◌≡◌, ◌+◌, ◌*◌, List, slice_index}
use Rattle.linear_algebra.specs.Field.{Gf, mul}
use Rattle.linear_algebra.specs.Sums.{sum_to}
use Rattle.fp_linear.specs.Slices.{AreElements}
use Rattle.fp_linear.specs.Meeting.{dot, Meets, IsClearFrom}

-- the n numbers of row k, each times x at its place, summed
abbrev pub row_value : Gf → ℕ → (ℕ → ℕ → ℕ) → ℕ → (ℕ → ℕ) → ℕ
row_value q n f k x = sum_to q n (λ l. mul q (f k l) (x l))

-- x meets the first m rows of n numbers exactly where it meets the first `count` rows of f
pub record AskRows (q : Gf) (n m : ℕ) (s : List ℕ) (f : ℕ → ℕ → ℕ) (count : ℕ) : Type 0 where
  pub forth : (x : ℕ → ℕ) → Meets q n m s x → (k : ℕ) → k < count → row_value q n f k x ≡ 0
  pub back : (x : ℕ → ℕ) → ((k : ℕ) → k < count → row_value q n f k x ≡ 0) → Meets q n m s x

-- x meets the first rows of n numbers of a block
pub record MeetsLines (q : Gf) (n : ℕ) (block : List ℕ) (count : ℕ) (x : ℕ → ℕ) : Type 0 where
  pub line : (z : ℕ) → z < count → dot q n block (z * n) x ≡ 0

-- The first rows of n numbers of a block are, at the first places, those of f from a row on.
pub record HoldsRows (n : ℕ) (f : ℕ → ℕ → ℕ) (base count places : ℕ) (s : List ℕ) : Type 0 where
  pub at : (r k : ℕ) → r < count → k < places → slice_index s (r * n + k) ≡ f (base + r) k

-- In the first rows of n numbers of a block values are written at a place, and the other places keep theirs.
pub record IsColumnWritten (n place count : ℕ) (value : ℕ → ℕ) (old new : List ℕ) : Type 0 where
  pub there : (z : ℕ) → z < count → slice_index new (z * n + place) ≡ value z
  pub apart : (z k : ℕ) → k < place → slice_index new (z * n + k) ≡ slice_index old (z * n + k)

-- The first `used` of m rows of n numbers are taken: behind them there are zeros.
pub record AreTaken (q : Gf) (n m used : ℕ) (s : List ℕ) : Type 0 where
  pub within : used ≤ m
  pub elements : AreElements q s
  pub clear : IsClearFrom (used * n) s
