-- Rows of a matrix that stand for what comes along all paths of a length, by the columns that they take to zero; and what rows of a slice become along one
-- arrow. (Assem, Simson, Skowroński, volume 1, chapter III, 1 and 2.2.)
use Rattle.std.specs.Prelude.{ℕ, ◌<◌, ◌≡◌, ◌+◌, List, [], slice_index, slice_index_or}
use Rattle.linear_algebra.specs.Field.{Gf, order, mul}
use Rattle.linear_algebra.specs.Sums.{sum_to}
use Rattle.linear_algebra.specs.Rows.{entry}
use Rattle.linear_algebra.specs.Matrix.{Column}
use Rattle.linear_algebra.specs.BlockFamilies.{total}
use Rattle.fp_linear.specs.Matrix.{PlainMatrix}
use Rattle.fp_linear.specs.Meeting.{Meets}
use Rattle.representations.specs.Quiver.{Quiver}
use Rattle.representations.specs.Rep.{Rep}
use Rattle.module_checks.specs.PathImages.{arrow_dot, EndsPaths}

module _ {q : Gf} {Q : Quiver} (X : Rep q Q) where
  -- the rows, from the coordinates of the vertex w on, take the column y at w to zero
  pub record TakeToZero (rows : PlainMatrix) (w : ℕ) (y : Column q (X.dim w)) : Type 0 where
    pub each : (r : ℕ) → r < rows.row_count → sum_to q (X.dim w) (λ i. mul q (entry rows.rows r (total w X.dim + i)) (y.at i 0)) ≡ 0

  -- The rows, of n numbers, take a column at a vertex to zero exactly where all paths of j arrows that end there do.
  pub record IsLevel (j n : ℕ) (rows : PlainMatrix) : Type 0 where
    pub field : rows.field ≡ q
    pub columns : rows.col_count ≡ n
    pub small : (i j : ℕ) → entry rows.rows i j < order q
    pub forth : (w : ℕ) (y : Column q (X.dim w)) → TakeToZero rows w y → EndsPaths X j w y
    pub back : (w : ℕ) (y : Column q (X.dim w)) → EndsPaths X j w y → TakeToZero rows w y

  -- x meets the rows of new exactly where it takes to zero what the first `count` rows of old become along the arrow a
  pub record AskImage (n m count a : ℕ) (old new : List ℕ) : Type 0 where
    pub forth : (x : ℕ → ℕ) → Meets q n m new x → (r : ℕ) → r < count → arrow_dot X n old a r x ≡ 0
    pub back : (x : ℕ → ℕ) → ((r : ℕ) → r < count → arrow_dot X n old a r x ≡ 0) → Meets q n m new x

  -- what the first `count` rows of a slice become along the arrow a is zero at each of the given rows
  pub record IsStoppedAt (n count : ℕ) (s : List ℕ) (rows : PlainMatrix) (a : ℕ) : Type 0 where
    pub each : (l r : ℕ) → l < rows.row_count → r < count → arrow_dot X n s a r (slice_index (slice_index_or rows.rows l [])) ≡ 0
