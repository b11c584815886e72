-- Products that are blocks, entry by entry: a matrix followed by zeros, and the last columns of a matrix.
use Rattle.std.specs.Prelude.{ℕ, ◌≡◌, ◌<◌, ◌≤◌, ◌+◌, List, slice_index, cond, ltb}
use Rattle.linear_algebra.specs.Field.{Gf}
use Rattle.linear_algebra.specs.Matrix.{zeros, one, beside, stack, ◌·◌}
use Rattle.linear_algebra.specs.Rows.{entry}
use Rattle.fp_linear.specs.Matrix.{PlainMatrix}
use Rattle.representations.specs.Quiver.{Quiver}
use Rattle.representations.specs.Rep.{Rep}
use Rattle.representations.specs.Sum.{sum_rep}
use Rattle.module_types.specs.Readings.{family_of}
use Rattle.module_checks.specs.Products.{product_entry}

-- row r of the matrix, and then zeros
abbrev pub widened : PlainMatrix → ℕ → ℕ → ℕ
widened a r j = cond (ltb j a.col_count) (entry a.rows r j) 0

-- the product of f and j is the matrix i followed by zeros, in the first n places of row r; in the first k rows
pub record IsWidenedRow (q : Gf) (f j i : PlainMatrix) (r n : ℕ) : Type 0 where
  pub at : (c : ℕ) → c < n → product_entry q f.col_count f j r c ≡ widened i r c

pub record IsWidened (q : Gf) (f j i : PlainMatrix) (k : ℕ) : Type 0 where
  pub each : (r : ℕ) → r < k → IsWidenedRow q f j i r j.col_count

-- the matrix g is what j has behind its first `start` columns, in the first n places of row r; in the first k rows
pub record IsLastRow (g j : PlainMatrix) (start r n : ℕ) : Type 0 where
  pub at : (c : ℕ) → c < n → entry g.rows r c ≡ entry j.rows r (start + c)

pub record AreLast (g j : PlainMatrix) (start k : ℕ) : Type 0 where
  pub each : (r : ℕ) → r < k → IsLastRow g j start r g.col_count

-- at the first k vertices: f and then the embedding of E into I and M is the embedding of N followed by zeros; g is the part of the former that lies in M
module _ {q : Gf} {Q : Quiver} (N E I M : Rep q Q) (f g left middle : List PlainMatrix) where
  pub record AreMapsUpTo (k : ℕ) : Type 0 where
    pub first : (w : ℕ) → w < k → family_of N E f w · family_of E (sum_rep I M) middle w ≡ beside (family_of N I left w) (zeros q (N.dim w) (M.dim w))
    pub second : (w : ℕ) → w < k → family_of E M g w ≡ family_of E (sum_rep I M) middle w · stack (zeros q (I.dim w) (M.dim w)) (one q (M.dim w))

-- a slice holds the first n numbers of column j of a matrix, from place `start` on, and zeros elsewhere
pub record IsShiftedColumn (a : PlainMatrix) (j start n : ℕ) (s : List ℕ) : Type 0 where
  pub before : (z : ℕ) → z < start → slice_index s z ≡ 0
  pub at : (i : ℕ) → i < n → slice_index s (start + i) ≡ entry a.rows i j
  pub behind : (z : ℕ) → start + n ≤ z → slice_index s z ≡ 0
