-- The state of elimination: a matrix, given by its entries, of which the first columns are done.
use Rattle.std.specs.Prelude.{ℕ, ◌<◌, ◌≤◌, ◌≡◌, ◌≢◌, List, slice_index}
use Rattle.linear_algebra.specs.Field.{Gf, add, mul, neg, sub}
use Rattle.linear_algebra.specs.Sums.{sum_to}
use Rattle.linear_algebra.specs.Rows.{entry}
use Rattle.linear_algebra.specs.Reduced.{pivot}

-- Of a matrix with m rows and entries e the first c columns are in reduced row form: its first r rows have their leading ones at the places
-- p 0 < p 1 < .. < p (r − 1) of these columns, the other entries of those columns are zero, and so are the first c entries of the other rows.
pub record IsPartlyReduced (m c r : ℕ) (e : ℕ → ℕ → ℕ) (p : ℕ → ℕ) : Type 0 where
  pub fits : r ≤ m
  pub inside : (i : ℕ) → i < r → p i < c
  pub further : (i k : ℕ) → i < k → k < r → p i < p k
  pub one : (i : ℕ) → i < r → e i (p i) ≡ 1
  pub cleared : (i k : ℕ) → i < r → k < m → k ≢ i → e k (p i) ≡ 0
  pub before : (i j : ℕ) → i < r → j < p i → e i j ≡ 0
  pub below : (i j : ℕ) → r ≤ i → i < m → j < c → e i j ≡ 0

-- Rows a and b of m rows of n entries are exchanged.
pub record AreExchanged (m n a b : ℕ) (e f : ℕ → ℕ → ℕ) : Type 0 where
  pub first : (j : ℕ) → j < n → f a j ≡ e b j
  pub second : (j : ℕ) → j < n → f b j ≡ e a j
  pub others : (i j : ℕ) → i < m → j < n → i ≢ a → i ≢ b → f i j ≡ e i j

-- Row r is multiplied by a.
pub record IsScaled (q : Gf) (m n r a : ℕ) (e f : ℕ → ℕ → ℕ) : Type 0 where
  pub row : (j : ℕ) → j < n → f r j ≡ mul q a (e r j)
  pub others : (i j : ℕ) → i < m → j < n → i ≢ r → f i j ≡ e i j

-- From each other row its entry in column c times row r is taken.
pub record IsCleared (q : Gf) (m n r c : ℕ) (e f : ℕ → ℕ → ℕ) : Type 0 where
  pub row : (j : ℕ) → j < n → f r j ≡ e r j
  pub others : (i j : ℕ) → i < m → j < n → i ≢ r → f i j ≡ add q (e i j) (mul q (neg q (e i c)) (e r j))

-- Of rows a and b the first j entries are exchanged.
pub record AreExchangedBelow (m n a b j : ℕ) (e f : ℕ → ℕ → ℕ) : Type 0 where
  pub first : (t : ℕ) → t < j → f a t ≡ e b t
  pub second : (t : ℕ) → t < j → f b t ≡ e a t
  pub others : (i t : ℕ) → i < m → t < n → i ≢ a → i ≢ b → f i t ≡ e i t
  pub rest : (i t : ℕ) → i < m → j ≤ t → t < n → f i t ≡ e i t

-- Of the rows other than r the first k are cleared.
pub record IsClearedBelow (q : Gf) (m n r c k : ℕ) (e f : ℕ → ℕ → ℕ) : Type 0 where
  pub row : (j : ℕ) → j < n → f r j ≡ e r j
  pub done : (i j : ℕ) → i < k → i < m → j < n → i ≢ r → f i j ≡ add q (e i j) (mul q (neg q (e i c)) (e r j))
  pub rest : (i j : ℕ) → k ≤ i → i < m → j < n → f i j ≡ e i j

-- y is the functional of column c, as far as the first k of these rows in reduced row form with n entries tell it.
pub record IsFunctionalUpTo (q : Gf) (n c k : ℕ) (form : List (List ℕ)) (y : List ℕ) : Type 0 where
  pub at_column : slice_index y c ≡ 1
  pub at_pivot : (i : ℕ) → i < k → slice_index y (pivot form i) ≡ neg q (entry form i c)
  pub elsewhere : (j : ℕ) → j < n → j ≢ c → ((i : ℕ) → i < k → pivot form i ≢ j) → slice_index y j ≡ 0

-- From the row x the first k rows are taken, each as often as the entry of x at its pivot says.
pub record IsClearedOf (q : Gf) (n k : ℕ) (rows : List (List ℕ)) (x y : List ℕ) : Type 0 where
  pub at : (j : ℕ) → j < n → slice_index y j ≡ sub q (slice_index x j) (sum_to q k (λ i. mul q (slice_index x (pivot rows i)) (entry rows i j)))

-- The first k entries of x, times the first k rows.
pub record IsProductOf (q : Gf) (n k : ℕ) (x : List ℕ) (rows : List (List ℕ)) (y : List ℕ) : Type 0 where
  pub at : (j : ℕ) → j < n → slice_index y j ≡ sum_to q k (λ i. mul q (slice_index x i) (entry rows i j))
