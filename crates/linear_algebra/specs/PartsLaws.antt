-- The laws of parts of a matrix: rows, columns, unit rows, scalars, and the two ways to cut a matrix in two.
use Rattle.std.proofs.Common.{ℕ, zero, ◌+◌, ◌%◌, ◌<◌, ◌≡◌, ◌≢◌, refl, sym, ap, ◌∙◌, arith, inl, inr, cond, ltb, lt-ltb, mod-eq_of_lt}
use Rattle.std.proofs.lemmas.Bool.{cond-true}
use Rattle.linear_algebra.specs.Field.{Gf, order, add, mul, inv}
use Rattle.linear_algebra.specs.FieldLaws.{zero_add, mul_below, mul_comm, mul_inv, inv_below}
use Rattle.linear_algebra.specs.Sums.{sum-suc, sum-none}
use Rattle.linear_algebra.specs.Rank.{HasInverse}
use Rattle.linear_algebra.specs.Matrix.{Mat, Row, Column, Mat-eq, Mat-eq_below, made, reshape, zeros, delta-same, one, ◌⊙◌, ◌·◌, transpose, stack, beside}
use Rattle.linear_algebra.specs.Parts.{row, column, unit, unit_column, scalar, upper, lower, left_part, right_part}
use Rattle.linear_algebra.specs.MatrixLaws.{one-at, one_mul_mat, mul_one_mat, transpose_mul, transpose_one, transpose_transpose}
use Rattle.linear_algebra.specs.Blocks.{join_cases, join-first, join-shifted, transpose_stack, transpose_beside}

-- Entries of what is made from plain functions.
pub made-at : (q : Gf) (m n : ℕ) (f : ℕ → ℕ → ℕ) (i j : ℕ) → i < m → j < n → (made q m n f).at i j ≡ f i j % order q
unfolding made
made-at q m n f i j h k = cond-true (ltb i m) (cond (ltb j n) (f i j % order q) zero) zero (lt-ltb i m h) ∙ cond-true (ltb j n) (f i j % order q) zero (lt-ltb j n k)

-- A matrix is made from its entries.
pub made_of_entries : {q : Gf} {m n : ℕ} (a : Mat q m n) → made q m n a.at ≡ a
made_of_entries {q} {m} {n} a = Mat-eq_below _ _ (λ i j h k. made-at q m n a.at i j h k ∙ mod-eq_of_lt (a.fits.small i j))

pub made-same : (q : Gf) (m n : ℕ) (f g : ℕ → ℕ → ℕ) → ((i j : ℕ) → i < m → j < n → f i j % order q ≡ g i j % order q) → made q m n f ≡ made q m n g
made-same q m n f g e = Mat-eq_below _ _ (λ i j h k. made-at q m n f i j h k ∙ e i j h k ∙ sym (made-at q m n g i j h k))

pub reshape-at : {q : Gf} {m n k l : ℕ} (e : m ≡ k) (d : n ≡ l) (a : Mat q m n) (i j : ℕ) → (reshape e d a).at i j ≡ a.at i j
unfolding reshape
reshape-at e d a i j = refl

-- Rows.
pub row-at : {q : Gf} {m n : ℕ} (k : ℕ) (a : Mat q m n) (j : ℕ) → (row k a).at 0 j ≡ a.at k j
unfolding row
row-at k a j = refl

pub column-at : {q : Gf} {m n : ℕ} (k : ℕ) (a : Mat q m n) (i : ℕ) → (column k a).at i 0 ≡ a.at i k
unfolding column row transpose
column-at k a i = refl

pub unit-row : (q : Gf) (n i : ℕ) → unit q n i ≡ row i (one q n)
unfolding unit
unit-row q n i = refl

pub unit-at : (q : Gf) (n i j : ℕ) → (unit q n i).at 0 j ≡ (one q n).at i j
unfolding unit
unit-at q n i j = row-at i (one q n) j

-- Matrices are equal if their rows are, and rows if their entries are.
pub rows_equal : {q : Gf} {m n : ℕ} (a b : Mat q m n) → ((i : ℕ) → i < m → row i a ≡ row i b) → a ≡ b
rows_equal a b e = Mat-eq_below a b (λ i j h k. sym (row-at i a j) ∙ ap (λ (x : Row _ _). x.at 0 j) (e i h) ∙ row-at i b j)

pub Row-eq : {q : Gf} {n : ℕ} (x y : Row q n) → ((j : ℕ) → j < n → x.at 0 j ≡ y.at 0 j) → x ≡ y
Row-eq x y e = Mat-eq_below x y (λ i j h k. let first : i ≡ 0 = omega arith in ap (λ i. x.at i j) first ∙ e j k ∙ sym (ap (λ i. y.at i j) first))

pub row_self : {q : Gf} {n : ℕ} (x : Row q n) → row 0 x ≡ x
row_self x = Row-eq (row 0 x) x (λ j h. row-at 0 x j)

-- The entry of a matrix of one row and one column.
pub Mat_1-eq : {q : Gf} (a b : Mat q 1 1) → a.at 0 0 ≡ b.at 0 0 → a ≡ b
Mat_1-eq a b e = Row-eq a b (λ j h. let first : j ≡ 0 = omega arith in ap (a.at 0) first ∙ e ∙ sym (ap (b.at 0) first))

pub row-mul : {q : Gf} {m k n : ℕ} (i : ℕ) (a : Mat q m k) (b : Mat q k n) → row i (a · b) ≡ row i a · b
unfolding ◌·◌ row
row-mul i a b = Row-eq _ _ (λ j h. refl)

pub unit_mul : {q : Gf} {m n : ℕ} (i : ℕ) (a : Mat q m n) → unit q m i · a ≡ row i a
unfolding unit
unit_mul {q} {m} i a = sym (row-mul i (one q m) a) ∙ ap (row i) (one_mul_mat a)

pub row_zeros : (q : Gf) (m n i : ℕ) → row i (zeros q m n) ≡ zeros q 1 n
unfolding row zeros
row_zeros q m n i = Row-eq _ _ (λ j h. refl)

pub column-mul : {q : Gf} {m k n : ℕ} (j : ℕ) (a : Mat q m k) (b : Mat q k n) → column j (a · b) ≡ a · column j b
unfolding ◌·◌ row column transpose
column-mul j a b = Mat-eq_below _ _ (λ i t h k. let first : t ≡ 0 = omega arith in
    ap (λ t. (column j (a · b)).at i t) first ∙ sym (ap (λ t. (a · column j b).at i t) first))

pub transpose_row : {q : Gf} {m n : ℕ} (i : ℕ) (a : Mat q m n) → transpose (row i a) ≡ column i (transpose a)
unfolding column transpose
transpose_row i a = refl

-- Matrices that multiply all rows alike are equal.
pub equal_on_rows : {q : Gf} {m n : ℕ} (a b : Mat q m n) → ((x : Row q m) → x · a ≡ x · b) → a ≡ b
equal_on_rows {q} {m} a b e = rows_equal a b (λ i h. sym (unit_mul i a) ∙ e (unit q m i) ∙ unit_mul i b)

pub equal_on_columns : {q : Gf} {m n : ℕ} (a b : Mat q m n) → ((y : Column q n) → a · y ≡ b · y) → a ≡ b
equal_on_columns {q} {m} {n} a b e =
    sym (transpose_transpose a)
    ∙ ap transpose (equal_on_rows (transpose a) (transpose b) (λ x. flip a x ∙ ap transpose (e (transpose x)) ∙ sym (flip b x)))
    ∙ transpose_transpose b
  where
    flip : (c : Mat q m n) (x : Row q n) → x · transpose c ≡ transpose (c · transpose x)
    flip c x = ap (λ z. z · transpose c) (sym (transpose_transpose x)) ∙ sym (transpose_mul c (transpose x))

pub mul_unit_column : {q : Gf} {m n : ℕ} (a : Mat q m n) (j : ℕ) → a · unit_column q n j ≡ column j a
unfolding unit_column unit column
mul_unit_column {q} {m} {n} a j =
    ap (λ (z : Mat q n n). a · transpose (row j z)) (sym (transpose_one q n)) ∙ sym (column-mul j a (one q n)) ∙ ap (column j) (mul_one_mat a)

-- Scalars.
pub scalar-at : (q : Gf) (c : ℕ) → (scalar q c).at 0 0 ≡ c % order q
unfolding scalar
scalar-at q c = made-at q 1 1 (λ i j. c) 0 0 (omega arith) (omega arith)

pub product_1 : {q : Gf} (a b : Mat q 1 1) → (a · b).at 0 0 ≡ mul q (a.at 0 0) (b.at 0 0)
unfolding ◌·◌
product_1 {q} a b = sum-suc q 0 (λ t. mul q (a.at 0 t) (b.at t 0)) ∙ ap (λ s. add q s (mul q (a.at 0 0) (b.at 0 0))) (sum-none q _) ∙ zero_add q (mul q (a.at 0 0) (b.at 0 0)) (mul_below q (a.at 0 0) (b.at 0 0))

-- a matrix of one entry times a row
pub scalar_mul : {q : Gf} {n : ℕ} (a : Mat q 1 1) (y : Row q n) → a · y ≡ a.at 0 0 ⊙ y
unfolding ◌·◌ ◌⊙◌
scalar_mul {q} a y = Row-eq _ _ (λ j h. sum-suc q 0 (λ t. mul q (a.at 0 t) (y.at t j)) ∙ ap (λ s. add q s (mul q (a.at 0 0) (y.at 0 j))) (sum-none q _) ∙ zero_add q (mul q (a.at 0 0) (y.at 0 j)) (mul_below q (a.at 0 0) (y.at 0 j)))

pub commute_1 : {q : Gf} (a b : Mat q 1 1) → a · b ≡ b · a
commute_1 {q} a b = Mat_1-eq _ _ (product_1 a b ∙ mul_comm q (a.at 0 0) (b.at 0 0) ∙ sym (product_1 b a))

pub one_1-at : (q : Gf) → (one q 1).at 0 0 ≡ 1
one_1-at q = one-at q 1 0 0 (omega arith) ∙ delta-same 0

pub mul-inv_1 : {q : Gf} (a : Mat q 1 1) → a.at 0 0 ≢ 0 → a · scalar q (inv q (a.at 0 0)) ≡ one q 1
mul-inv_1 {q} a n = Mat_1-eq _ _ (
    product_1 a (scalar q (inv q (a.at 0 0)))
    ∙ ap (mul q (a.at 0 0)) (scalar-at q (inv q (a.at 0 0)) ∙ mod-eq_of_lt (inv_below q (a.at 0 0)))
    ∙ mul_inv q (a.at 0 0) (a.fits.small 0 0) n ∙ sym (one_1-at q))

pub invertible_1 : {q : Gf} (a : Mat q 1 1) → a.at 0 0 ≢ 0 → HasInverse a
invertible_1 {q} a n = record {
  inverse = scalar q (inv q (a.at 0 0));
  right = mul-inv_1 a n;
  left = commute_1 (scalar q (inv q (a.at 0 0))) a ∙ mul-inv_1 a n;
}

pub scalar_of : {q : Gf} (a : Mat q 1 1) → scalar q (a.at 0 0) ≡ a
scalar_of {q} a = Mat_1-eq _ _ (scalar-at q (a.at 0 0) ∙ mod-eq_of_lt (a.fits.small 0 0))

-- Cutting a matrix in two.
pub stack_parts : {q : Gf} (m k : ℕ) {n : ℕ} (a : Mat q (m + k) n) → stack (upper m k a) (lower m k a) ≡ a
unfolding stack upper lower
stack_parts m k a = Mat-eq _ _ (λ i j. elim (join_cases m i) [
  | inl e ↦ e.is _ _ ∙ cond-true (ltb i m) (a.at i j) zero (lt-ltb i m e.lt)
  | inr e ↦ e.is _ _ ∙ ap (λ i. a.at i j) (omega (arith, e.ge))
])

pub beside_parts : {q : Gf} {m : ℕ} (k n : ℕ) (a : Mat q m (k + n)) → beside (left_part k n a) (right_part k n a) ≡ a
unfolding left_part right_part
beside_parts k n a =
    sym (transpose_stack (upper k n (transpose a)) (lower k n (transpose a)))
    ∙ ap transpose (stack_parts k n (transpose a)) ∙ transpose_transpose a

module _ {q : Gf} {m k n : ℕ} where
  pub upper_stack : (a : Mat q m n) (b : Mat q k n) → upper m k (stack a b) ≡ a
  unfolding stack upper
  upper_stack a b = Mat-eq_below _ _ (λ i j h l. cond-true (ltb i m) ((stack a b).at i j) zero (lt-ltb i m h) ∙ join-first m (λ t. a.at t j) (λ t. b.at t j) i h)

  pub lower_stack : (a : Mat q m n) (b : Mat q k n) → lower m k (stack a b) ≡ b
  unfolding stack lower
  lower_stack a b = Mat-eq _ _ (λ i j. join-shifted m (λ t. a.at t j) (λ t. b.at t j) i)

  pub stack_first : (a c : Mat q m n) (b d : Mat q k n) → stack a b ≡ stack c d → a ≡ c
  stack_first a c b d e = sym (upper_stack a b) ∙ ap (upper m k) e ∙ upper_stack c d

  pub stack_second : (a c : Mat q m n) (b d : Mat q k n) → stack a b ≡ stack c d → b ≡ d
  stack_second a c b d e = sym (lower_stack a b) ∙ ap (lower m k) e ∙ lower_stack c d

module _ {q : Gf} {m k n : ℕ} where
  pub left_beside : (a : Mat q m k) (b : Mat q m n) → left_part k n (beside a b) ≡ a
  unfolding left_part
  left_beside a b = ap (λ (z : Mat q (k + n) m). transpose (upper k n z)) (transpose_beside a b) ∙ ap transpose (upper_stack (transpose a) (transpose b)) ∙ transpose_transpose a

  pub right_beside : (a : Mat q m k) (b : Mat q m n) → right_part k n (beside a b) ≡ b
  unfolding right_part
  right_beside a b = ap (λ (z : Mat q (k + n) m). transpose (lower k n z)) (transpose_beside a b) ∙ ap transpose (lower_stack (transpose a) (transpose b)) ∙ transpose_transpose b

  pub beside_first : (a c : Mat q m k) (b d : Mat q m n) → beside a b ≡ beside c d → a ≡ c
  beside_first a c b d e = sym (left_beside a b) ∙ ap (left_part k n) e ∙ left_beside c d

  pub beside_second : (a c : Mat q m k) (b d : Mat q m n) → beside a b ≡ beside c d → b ≡ d
  beside_second a c b d e = sym (right_beside a b) ∙ ap (right_part k n) e ∙ right_beside c d

pub unit_unit : (q : Gf) (n i : ℕ) → i < n → unit q n i · unit_column q n i ≡ one q 1
unit_unit q n i h =
    Mat_1-eq _ _ (
    ap (λ (z : Mat q 1 1). z.at 0 0) (mul_unit_column (unit q n i) i) ∙ column-at i (unit q n i) 0
    ∙ unit-at q n i i ∙ one-at q n i i h ∙ delta-same i ∙ sym (one_1-at q))

pub left_part-at : {q : Gf} {m : ℕ} (k n : ℕ) (a : Mat q m (k + n)) (i j : ℕ) → j < k → (left_part k n a).at i j ≡ a.at i j
unfolding left_part upper transpose
left_part-at k n a i j h = cond-true (ltb j k) (a.at i j) zero (lt-ltb j k h)

pub right_part-at : {q : Gf} {m : ℕ} (k n : ℕ) (a : Mat q m (k + n)) (i j : ℕ) → (right_part k n a).at i j ≡ a.at i (k + j)
unfolding right_part lower transpose
right_part-at k n a i j = refl
