-- Rows in a slice whose span is, at each vertex, the sum of what comes along the paths of one length, by the columns that they take to zero.
-- (Assem, Simson, Skowroński, volume 1, chapter III, 1 and 2.2.)
use Rattle.std.specs.Prelude.{ℕ, ◌<◌, ◌≤◌, ◌≡◌, ◌+◌, ◌*◌, List, slice_index}
use Rattle.linear_algebra.specs.Field.{Gf, mul}
use Rattle.linear_algebra.specs.Sums.{sum_to}
use Rattle.linear_algebra.specs.Rows.{entry}
use Rattle.linear_algebra.specs.Matrix.{Column, delta, zeros, ◌·◌}
use Rattle.linear_algebra.specs.BlockFamilies.{total}
use Rattle.fp_linear.specs.Matrix.{PlainMatrix}
use Rattle.fp_linear.specs.Meeting.{Meets}
use Rattle.representations.specs.Quiver.{Quiver, Path, path_length}
use Rattle.representations.specs.Rep.{Rep, along}

-- entry j of what the numbers of a slice from `from` on become under a matrix, and that times x from place t on
abbrev pub image_entry : Gf → List ℕ → ℕ → PlainMatrix → ℕ → ℕ
image_entry q s from a j = sum_to q a.row_count (λ i. mul q (slice_index s (from + i)) (entry a.rows i j))

abbrev pub image_dot : Gf → List ℕ → ℕ → PlainMatrix → ℕ → (ℕ → ℕ) → ℕ
image_dot q s from a t x = sum_to q a.col_count (λ j. mul q (image_entry q s from a j) (x (t + j)))

-- x takes the image of one row to zero; those of the first `count` rows of n numbers, each from place b of its row on
pub record ImageMet (q : Gf) (s : List ℕ) (from : ℕ) (a : PlainMatrix) (t : ℕ) (x : ℕ → ℕ) : Type 0 where
  pub met : image_dot q s from a t x ≡ 0

pub record ImagesMet (q : Gf) (n count : ℕ) (s : List ℕ) (b : ℕ) (a : PlainMatrix) (t : ℕ) (x : ℕ → ℕ) : Type 0 where
  pub each : (r : ℕ) → r < count → image_dot q s (r * n + b) a t x ≡ 0

-- the numbers are zero from a place on, so many
pub record IsZeroWithin (s : List ℕ) (from count : ℕ) : Type 0 where
  pub at : (k : ℕ) → k < count → slice_index s (from + k) ≡ 0

-- the rows of the identity matrix
pub record IsUnitRows (n k : ℕ) (s : List ℕ) : Type 0 where
  pub units : (r i : ℕ) → r < k → i < n → slice_index s (r * n + i) ≡ delta r i
  pub behind : (p : ℕ) → k * n ≤ p → slice_index s p ≡ 0

module _ {q : Gf} {Q : Quiver} (X : Rep q Q) where
  -- what row r of a slice gives along the arrow a, times x; the coordinates of a vertex follow those of the vertices before it
  abbrev pub arrow_dot : ℕ → List ℕ → ℕ → ℕ → (ℕ → ℕ) → ℕ
  arrow_dot n s a r x = sum_to q (X.dim (Q.target a)) (λ j. mul q
      (sum_to q (X.dim (Q.source a)) (λ i. mul q (slice_index s (r * n + total (Q.source a) X.dim + i)) ((X.mat a).at i j)))
      (x (total (Q.target a) X.dim + j)))

  -- x meets the rows of new exactly where it takes to zero what the first `count` rows of old become along the first k arrows
  pub record AskImages (n m count k : ℕ) (old new : List ℕ) : Type 0 where
    pub forth : (x : ℕ → ℕ) → Meets q n m new x → (a r : ℕ) → a < k → r < count → arrow_dot n old a r x ≡ 0
    pub back : (x : ℕ → ℕ) → ((a r : ℕ) → a < k → r < count → arrow_dot n old a r x ≡ 0) → Meets q n m new x

  -- the column y at the vertex w takes to zero what comes along paths of k arrows; the first m rows of a slice
  pub record EndsPaths (k w : ℕ) (y : Column q (X.dim w)) : Type 0 where
    pub along : {v : ℕ} (p : Path Q v w) → path_length p ≡ k → along X p · y ≡ zeros q (X.dim v) 1

  pub record MeetsAt (n m : ℕ) (s : List ℕ) (w : ℕ) (y : Column q (X.dim w)) : Type 0 where
    pub rows : (r : ℕ) → r < m → sum_to q (X.dim w) (λ i. mul q (slice_index s (r * n + total w X.dim + i)) (y.at i 0)) ≡ 0

  -- the rows of a slice span what comes along the paths of k arrows
  pub record HoldPaths (k n m : ℕ) (s : List ℕ) : Type 0 where
    pub forth : (w : ℕ) (y : Column q (X.dim w)) → MeetsAt n m s w y → EndsPaths k w y
    pub back : (w : ℕ) (y : Column q (X.dim w)) → EndsPaths k w y → MeetsAt n m s w y

  -- all paths of k arrows act as zero
  pub record LongPathsActAsZero (k : ℕ) : Type 0 where
    pub zero : {v w : ℕ} (p : Path Q v w) → path_length p ≡ k → along X p ≡ zeros q (X.dim v) (X.dim w)
