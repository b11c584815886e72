-- Matrices at the vertices, and what is asked of each, place by place.
use Rattle.std.specs.Prelude.{ℕ, suc, ◌<◌, ◌≤◌, ◌≡◌, ◌+◌, ◌*◌, ◌/◌, ◌%◌, List, length, slice_index, slice_index_or}
use Rattle.linear_algebra.specs.Field.{Gf}
use Rattle.linear_algebra.specs.Rows.{entry}
use Rattle.linear_algebra.specs.Matrix.{delta}
use Rattle.linear_algebra.specs.Typed.{as_mat}
use Rattle.linear_algebra.specs.Ranks.{rank}
use Rattle.linear_algebra.specs.Reduced.{IsReduced}
use Rattle.fp_linear.specs.Matrix.{PlainMatrix}
use Rattle.module_checks.specs.Products.{product_entry}

-- the first k matrices are in reduced row form
pub record AreAllReduced (k : ℕ) (matrices : List PlainMatrix) : Type 0 where
  pub each : (v : ℕ) (a : PlainMatrix) → v < k → IsReduced (slice_index_or matrices v a).col_count (slice_index_or matrices v a).rows

-- The entry of column k in row p is 1, that row is a unit row, and below it the column is zero. The matrix has m rows and n columns.
pub record IsPlaceOf (m n : ℕ) (rows : List (List ℕ)) (k p : ℕ) : Type 0 where
  pub inside : p < m
  pub unit : (j : ℕ) → j < n → entry rows p j ≡ delta k j
  pub after : (r : ℕ) → p < r → r < m → entry rows r k ≡ 0

-- the first k columns have such places, further down from column to column; the next one is to be at `least` or behind it
pub record ArePlaces (m n : ℕ) (rows : List (List ℕ)) (k : ℕ) (place : ℕ → ℕ) : Type 0 where
  pub each : (i : ℕ) → i < k → IsPlaceOf m n rows i (place i)
  pub further : (i j : ℕ) → i < j → j < k → place i < place j

pub record HavePlaces (m n : ℕ) (rows : List (List ℕ)) (k least : ℕ) : Type 0 where
  pub place : ℕ → ℕ
  pub are : ArePlaces m n rows k place
  pub first : k ≡ 0 → least ≡ 0
  pub last : (i : ℕ) → suc i ≡ k → suc (place i) ≡ least

-- the matrix is co-reduced; the first k matrices are
pub record IsColumnReduced (a : PlainMatrix) : Type 0 where
  pub place : ℕ → ℕ
  pub are : ArePlaces a.row_count a.col_count a.rows a.col_count place

pub record AreAllColumnReduced (k : ℕ) (matrices : List PlainMatrix) : Type 0 where
  pub each : (v : ℕ) (a : PlainMatrix) → v < k → IsColumnReduced (slice_index_or matrices v a)

-- the product is zero at the first n places of row i; in the first m rows
pub record IsZeroInProductRow (q : Gf) (a b : PlainMatrix) (i n : ℕ) : Type 0 where
  pub at : (j : ℕ) → j < n → product_entry q a.col_count a b i j ≡ 0

pub record IsZeroProduct (q : Gf) (a b : PlainMatrix) (m : ℕ) : Type 0 where
  pub at : (i : ℕ) → i < m → IsZeroInProductRow q a b i b.col_count

-- the product is that of the identity matrix
pub record IsUnitInProductRow (q : Gf) (a b : PlainMatrix) (i n : ℕ) : Type 0 where
  pub at : (j : ℕ) → j < n → product_entry q a.col_count a b i j ≡ delta i j

pub record IsUnitProduct (q : Gf) (a b : PlainMatrix) (m : ℕ) : Type 0 where
  pub at : (i : ℕ) → i < m → IsUnitInProductRow q a b i b.col_count

-- two matrices over the field, of which the first has a column for each row of the second; such are those of two families at each vertex
pub record HaveProduct (q : Gf) (a b : PlainMatrix) : Type 0 where
  pub first_field : a.field ≡ q
  pub second_field : b.field ≡ q
  pub between : a.col_count ≡ b.row_count

pub record HaveProducts (q : Gf) (first second : List PlainMatrix) : Type 0 where
  pub counted : length first ≡ length second
  pub each : (v : ℕ) (a b : PlainMatrix) → v < length first → HaveProduct q (slice_index_or first v a) (slice_index_or second v b)

pub record AreZeroProducts (q : Gf) (k : ℕ) (first second : List PlainMatrix) : Type 0 where
  pub each : (v : ℕ) (a b : PlainMatrix) → v < k → IsZeroProduct q (slice_index_or first v a) (slice_index_or second v b) (slice_index_or first v a).row_count

pub record AreUnitProducts (q : Gf) (k : ℕ) (first second : List PlainMatrix) : Type 0 where
  pub each : (v : ℕ) (a b : PlainMatrix) → v < k → IsUnitProduct q (slice_index_or first v a) (slice_index_or second v b) (slice_index_or first v a).row_count

-- the slice begins with the first e entries of a matrix, row by row
pub record HoldsEntries (a : PlainMatrix) (e : ℕ) (s : List ℕ) : Type 0 where
  pub at : (k : ℕ) → k < e → slice_index s k ≡ entry a.rows (k / a.col_count) (k % a.col_count)

abbrev pub rank_of_plain : PlainMatrix → ℕ
rank_of_plain a = rank (as_mat a.field a.row_count a.col_count a.rows)

-- there is room for a copy of each of the matrices
pub record HaveRoom (matrices : List PlainMatrix) (entries pivots : List ℕ) : Type 0 where
  pub each : (v : ℕ) (a : PlainMatrix) → v < length matrices → (slice_index_or matrices v a).row_count * (slice_index_or matrices v a).col_count ≤ length entries
  pub rows : (v : ℕ) (a : PlainMatrix) → v < length matrices → (slice_index_or matrices v a).row_count ≤ length pivots

-- At each of the first k vertices one dimension is the other less the rank.
pub record HaveRanks (k : ℕ) (part whole : List ℕ) (matrices : List PlainMatrix) : Type 0 where
  pub each : (v : ℕ) (a : PlainMatrix) → v < k → slice_index part v + rank_of_plain (slice_index_or matrices v a) ≡ slice_index whole v
