-- The laws of sums of families, and of families of blocks.
use Rattle.std.proofs.Common.{ℕ, zero, suc, ◌+◌, ◌<◌, ◌≤◌, ◌≡◌, ◌≢◌, ltb, inl, inr, refl, sym, ap, ap₂, ◌∙◌, arith, lt-ltb, not-suc-le-zero}
use Rattle.std.proofs.lemmas.Bool.{cases_eq, cond-true}
use Rattle.linear_algebra.specs.Field.{Gf, add}
use Rattle.linear_algebra.specs.Sums.{sum_to, sum-none, sum-suc}
use Rattle.linear_algebra.specs.Matrix.{Mat, Mat-eq_below, zeros, one, ◌⊞◌, ◌⊙◌, ◌·◌, transpose, stack, beside}
use Rattle.linear_algebra.specs.Parts.{left_part, right_part}
use Rattle.linear_algebra.specs.BlockFamilies.{sum_all, total, beside_all, stack_all, column_block, row_block}
use Rattle.linear_algebra.proofs.MatrixLaws.{add_zeros, zeros_add, add_swap_mat, mul_add_mat, add_mul_mat, mul_zeros, zeros_mul, scale_add, scale_zeros, transpose_sum, transpose_zeros, transpose_transpose}
use Rattle.linear_algebra.proofs.Blocks.{join-first, join-shifted, mul_beside, stack_mul, beside_stack, beside_add, beside_scale, beside_zeros, stack_zeros, transpose_stack, transpose_beside, no_columns, no_rows, one_blocks}
use Rattle.linear_algebra.proofs.PartsLaws.{beside_parts, left_part-at, right_part-at}
use Rattle.linear_algebra.proofs.Steinitz.{through_none}

-- Sums of families.
module _ {q : Gf} {m n : ℕ} where
  pub sum_all-same : (k : ℕ) (f g : ℕ → Mat q m n) → ((i : ℕ) → i < k → f i ≡ g i) → sum_all k f ≡ sum_all k g
  unfolding sum_all
  sum_all-same zero f g h = refl
  sum_all-same (suc k) f g h = ap₂ (λ u v. u ⊞ v) (sum_all-same k f g (λ i l. h i (omega arith))) (h k (omega arith))

  pub sum_all-zeros : (k : ℕ) (f : ℕ → Mat q m n) → ((i : ℕ) → i < k → f i ≡ zeros q m n) → sum_all k f ≡ zeros q m n
  unfolding sum_all
  sum_all-zeros zero f h = refl
  sum_all-zeros (suc k) f h = ap₂ (λ u v. u ⊞ v) (sum_all-zeros k f (λ i l. h i (omega arith))) (h k (omega arith)) ∙ add_zeros (zeros q m n)

  pub sum_all-add : (k : ℕ) (f g : ℕ → Mat q m n) → sum_all k (λ i. f i ⊞ g i) ≡ sum_all k f ⊞ sum_all k g
  unfolding sum_all
  sum_all-add zero f g = sym (add_zeros (zeros q m n))
  sum_all-add (suc k) f g = ap (λ z. z ⊞ (f k ⊞ g k)) (sum_all-add k f g) ∙ add_swap_mat (sum_all k f) (sum_all k g) (f k) (g k)

  pub sum_all-swap : (k l : ℕ) (f : ℕ → ℕ → Mat q m n) → sum_all k (λ i. sum_all l (λ j. f i j)) ≡ sum_all l (λ j. sum_all k (λ i. f i j))
  unfolding sum_all
  sum_all-swap zero l f = sym (sum_all-zeros l (λ j. zeros q m n) (λ j h. refl))
  sum_all-swap (suc k) l f = ap (λ z. z ⊞ sum_all l (λ j. f k j)) (sum_all-swap k l f) ∙ sym (sum_all-add l (λ j. sum_all k (λ i. f i j)) (λ j. f k j))

  pub sum_all-single : (k i : ℕ) (f : ℕ → Mat q m n) → i < k → ((j : ℕ) → j < k → j ≢ i → f j ≡ zeros q m n) → sum_all k f ≡ f i
  unfolding sum_all
  sum_all-single zero i f h z = absurd (not-suc-le-zero h)
  sum_all-single (suc k) i f h z = elim (cases_eq i k) [
    | inl last ↦ ap₂ (λ u v. u ⊞ v) (sum_all-zeros k f (λ j l. z j (omega arith) (omega arith))) (ap f (sym last)) ∙ zeros_add (f i)
    | inr other ↦ ap₂ (λ u v. u ⊞ v) (sum_all-single k i f (omega arith) (λ j l d. z j (omega arith) d)) (z k (omega arith) (λ e. other (sym e))) ∙ add_zeros (f i)
  ]

  pub sum_all-scale : (c k : ℕ) (f : ℕ → Mat q m n) → c ⊙ sum_all k f ≡ sum_all k (λ i. c ⊙ f i)
  unfolding sum_all
  sum_all-scale c zero f = scale_zeros c
  sum_all-scale c (suc k) f = scale_add c (sum_all k f) (f k) ∙ ap (λ z. z ⊞ c ⊙ f k) (sum_all-scale c k f)

  pub transpose_sum_all : (k : ℕ) (f : ℕ → Mat q m n) → transpose (sum_all k f) ≡ sum_all k (λ i. transpose (f i))
  unfolding sum_all
  transpose_sum_all zero f = transpose_zeros q m n
  transpose_sum_all (suc k) f = transpose_sum (sum_all k f) (f k) ∙ ap (λ z. z ⊞ transpose (f k)) (transpose_sum_all k f)

  pub sum_all-at : (k : ℕ) (f : ℕ → Mat q m n) (i j : ℕ) → (sum_all k f).at i j ≡ sum_to q k (λ t. (f t).at i j)
  unfolding sum_all zeros ◌⊞◌
  sum_all-at zero f i j = sym (sum-none q _)
  sum_all-at (suc k) f i j = ap (λ z. add q z ((f k).at i j)) (sum_all-at k f i j) ∙ sym (sum-suc q k _)

pub mul_sum_all : {q : Gf} {m n l : ℕ} (k : ℕ) (a : Mat q m n) (f : ℕ → Mat q n l) → a · sum_all k f ≡ sum_all k (λ i. a · f i)
unfolding sum_all
mul_sum_all zero a f = mul_zeros a
mul_sum_all (suc k) a f = mul_add_mat a (sum_all k f) (f k) ∙ ap (λ z. z ⊞ a · f k) (mul_sum_all k a f)

pub sum_all_mul : {q : Gf} {m n l : ℕ} (k : ℕ) (f : ℕ → Mat q m n) (a : Mat q n l) → sum_all k f · a ≡ sum_all k (λ i. f i · a)
unfolding sum_all
sum_all_mul zero f a = zeros_mul a
sum_all_mul (suc k) f a = add_mul_mat (sum_all k f) (f k) a ∙ ap (λ z. z ⊞ f k · a) (sum_all_mul k f a)

-- Blocks.
pub total_grows : (size : ℕ → ℕ) (k v : ℕ) → v < k → total v size + size v ≤ total k size
total_grows size zero v h = absurd (not-suc-le-zero h)
total_grows size (suc k) v h = elim (cases_eq v k) [
  | inl e ↦ let same : total v size + size v ≡ total k size + size k = ap (λ k. total k size + size k) e in omega arith
  | inr d ↦ let before = total_grows size k v (omega arith) in omega arith
]

-- What is counted up to a place does not see what stands behind it.
pub total-same : (k : ℕ) (f g : ℕ → ℕ) → ((i : ℕ) → i < k → f i ≡ g i) → total k f ≡ total k g
total-same zero f g h = refl
total-same (suc k) f g h = ap₂ (λ a b. a + b) (total-same k f g (λ i l. h i (omega arith))) (h k (omega arith))

module _ {q : Gf} {l : ℕ} (size : ℕ → ℕ) where
  pub beside_all-same : (k : ℕ) (x y : (v : ℕ) → Mat q l (size v)) → ((v : ℕ) → v < k → x v ≡ y v) → beside_all k size x ≡ beside_all k size y
  unfolding beside_all
  beside_all-same zero x y h = refl
  beside_all-same (suc k) x y h = ap₂ beside (beside_all-same k x y (λ v b. h v (omega arith))) (h k (omega arith))

  pub beside_all-at : (k : ℕ) (x : (v : ℕ) → Mat q l (size v)) (v : ℕ) → v < k → (i j : ℕ) → j < size v → (beside_all k size x).at i (total v size + j) ≡ (x v).at i j
  unfolding beside_all beside
  beside_all-at zero x v h i j b = absurd (not-suc-le-zero h)
  beside_all-at (suc k) x v h i j b = elim (cases_eq v k) [
    | inl e ↦ ap (λ v. (beside_all (suc k) size x).at i (total v size + j)) e ∙ join-shifted (total k size) ((beside_all k size x).at i) ((x k).at i) j ∙ ap (λ v. (x v).at i j) (sym e)
    | inr d ↦
        let inside = total_grows size k v (omega arith) in
        join-first (total k size) ((beside_all k size x).at i) ((x k).at i) (total v size + j) (omega arith) ∙ beside_all-at k x v (omega arith) i j b
  ]

  pub column_block-at : (k v : ℕ) (a : Mat q l (total k size)) (i j : ℕ) → j < size v → (column_block k size v a).at i j ≡ a.at i (total v size + j)
  unfolding column_block
  column_block-at k v a i j h = cond-true (ltb j (size v)) (a.at i (total v size + j)) zero (lt-ltb j (size v) h)

  -- A block of blocks side by side.
  pub column_block_of : (k : ℕ) (x : (v : ℕ) → Mat q l (size v)) (v : ℕ) → v < k → column_block k size v (beside_all k size x) ≡ x v
  column_block_of k x v h = Mat-eq_below _ _ (λ i j b c. column_block-at k v (beside_all k size x) i j c ∙ beside_all-at k x v h i j c)

  left_block : (k : ℕ) (a : Mat q l (total (suc k) size)) (v : ℕ) → v < k → column_block k size v (left_part (total k size) (size k) a) ≡ column_block (suc k) size v a
  left_block k a v h =
      let inside = total_grows size k v h in
      Mat-eq_below _ _ (λ i j b c.
      column_block-at k v (left_part (total k size) (size k) a) i j c
      ∙ left_part-at (total k size) (size k) a i (total v size + j) (omega arith) ∙ sym (column_block-at (suc k) v a i j c))

  last_block : (k : ℕ) (a : Mat q l (total (suc k) size)) → right_part (total k size) (size k) a ≡ column_block (suc k) size k a
  last_block k a = Mat-eq_below _ _ (λ i j b c. right_part-at (total k size) (size k) a i j ∙ sym (column_block-at (suc k) k a i j c))

  -- Each matrix of that width is made of its blocks.
  pub beside_blocks : (k : ℕ) (a : Mat q l (total k size)) → beside_all k size (λ v. column_block k size v a) ≡ a
  unfolding beside_all
  beside_blocks zero a = no_columns _ _
  beside_blocks (suc k) a =
      ap₂ beside
      (beside_all-same k _ (λ v. column_block k size v (left_part (total k size) (size k) a)) (λ v h. sym (left_block k a v h)) ∙ beside_blocks k (left_part (total k size) (size k) a))
      (sym (last_block k a))
      ∙ beside_parts (total k size) (size k) a

  pub beside_all-zeros : (k : ℕ) → beside_all k size (λ v. zeros q l (size v)) ≡ zeros q l (total k size)
  unfolding beside_all
  beside_all-zeros zero = refl
  beside_all-zeros (suc k) = ap (λ z. beside z (zeros q l (size k))) (beside_all-zeros k) ∙ beside_zeros q l (total k size) (size k)

  pub beside_all-add : (k : ℕ) (x y : (v : ℕ) → Mat q l (size v)) → beside_all k size x ⊞ beside_all k size y ≡ beside_all k size (λ v. x v ⊞ y v)
  unfolding beside_all
  beside_all-add zero x y = no_columns _ _
  beside_all-add (suc k) x y = beside_add (beside_all k size x) (beside_all k size y) (x k) (y k) ∙ ap (λ z. beside z (x k ⊞ y k)) (beside_all-add k x y)

  pub beside_all-scale : (c k : ℕ) (x : (v : ℕ) → Mat q l (size v)) → c ⊙ beside_all k size x ≡ beside_all k size (λ v. c ⊙ x v)
  unfolding beside_all
  beside_all-scale c zero x = no_columns _ _
  beside_all-scale c (suc k) x = beside_scale c (beside_all k size x) (x k) ∙ ap (λ z. beside z (c ⊙ x k)) (beside_all-scale c k x)

  pub transpose_beside_all : (k : ℕ) (x : (v : ℕ) → Mat q l (size v)) → transpose (beside_all k size x) ≡ stack_all k size (λ v. transpose (x v))
  unfolding beside_all stack_all
  transpose_beside_all zero x = transpose_zeros q l zero
  transpose_beside_all (suc k) x = transpose_beside (beside_all k size x) (x k) ∙ ap (λ z. stack z (transpose (x k))) (transpose_beside_all k x)

  pub transpose_stack_all : (k : ℕ) (x : (v : ℕ) → Mat q (size v) l) → transpose (stack_all k size x) ≡ beside_all k size (λ v. transpose (x v))
  unfolding beside_all stack_all
  transpose_stack_all zero x = transpose_zeros q zero l
  transpose_stack_all (suc k) x = transpose_stack (stack_all k size x) (x k) ∙ ap (λ z. beside z (transpose (x k))) (transpose_stack_all k x)

  pub stack_all-same : (k : ℕ) (x y : (v : ℕ) → Mat q (size v) l) → ((v : ℕ) → v < k → x v ≡ y v) → stack_all k size x ≡ stack_all k size y
  unfolding stack_all
  stack_all-same zero x y h = refl
  stack_all-same (suc k) x y h = ap₂ stack (stack_all-same k x y (λ v b. h v (omega arith))) (h k (omega arith))

  pub stack_all-zeros : (k : ℕ) → stack_all k size (λ v. zeros q (size v) l) ≡ zeros q (total k size) l
  unfolding stack_all
  stack_all-zeros zero = refl
  stack_all-zeros (suc k) = ap (λ z. stack z (zeros q (size k) l)) (stack_all-zeros k) ∙ stack_zeros q (total k size) (size k) l

module _ {q : Gf} {l : ℕ} (size : ℕ → ℕ) where
  pub row_block_of : (k : ℕ) (x : (v : ℕ) → Mat q (size v) l) (v : ℕ) → v < k → row_block k size v (stack_all k size x) ≡ x v
  unfolding row_block
  row_block_of k x v h =
      ap (λ z. transpose (column_block k size v z)) (transpose_stack_all size k x)
      ∙ ap transpose (column_block_of size k (λ v. transpose (x v)) v h) ∙ transpose_transpose (x v)

  pub stack_blocks : (k : ℕ) (a : Mat q (total k size) l) → stack_all k size (λ v. row_block k size v a) ≡ a
  unfolding row_block
  stack_blocks k a =
      sym (transpose_beside_all size k (λ v. column_block k size v (transpose a)))
      ∙ ap transpose (beside_blocks size k (transpose a)) ∙ transpose_transpose a

-- Products.
pub mul_beside_all : {q : Gf} {m l : ℕ} (k : ℕ) (size : ℕ → ℕ) (c : Mat q m l) (x : (v : ℕ) → Mat q l (size v)) → c · beside_all k size x ≡ beside_all k size (λ v. c · x v)
unfolding beside_all
mul_beside_all zero size c x = no_columns _ _
mul_beside_all (suc k) size c x = mul_beside c (beside_all k size x) (x k) ∙ ap (λ z. beside z (c · x k)) (mul_beside_all k size c x)

pub stack_all_mul : {q : Gf} {m l : ℕ} (k : ℕ) (size : ℕ → ℕ) (x : (v : ℕ) → Mat q (size v) l) (c : Mat q l m) → stack_all k size x · c ≡ stack_all k size (λ v. x v · c)
unfolding stack_all
stack_all_mul zero size x c = no_rows _ _
stack_all_mul (suc k) size x c = stack_mul (stack_all k size x) (x k) c ∙ ap (λ z. stack z (x k · c)) (stack_all_mul k size x c)

pub beside_stack_all : {q : Gf} {l n : ℕ} (k : ℕ) (size : ℕ → ℕ) (x : (v : ℕ) → Mat q l (size v)) (y : (v : ℕ) → Mat q (size v) n) → beside_all k size x · stack_all k size y ≡ sum_all k (λ v. x v · y v)
unfolding beside_all stack_all sum_all
beside_stack_all {q} {l} {n} zero size x y = through_none (zeros q l zero) (zeros q zero n)
beside_stack_all (suc k) size x y = beside_stack (beside_all k size x) (x k) (stack_all k size y) (y k) ∙ ap (λ z. z ⊞ x k · y k) (beside_stack_all k size x y)

-- Blocks that undo one another make the unit matrix.
pub stack_beside_one : {q : Gf} {l : ℕ} (k : ℕ) (size : ℕ → ℕ) (x : (v : ℕ) → Mat q (size v) l) (y : (v : ℕ) → Mat q l (size v))
    → ((v : ℕ) → v < k → x v · y v ≡ one q (size v)) → ((v w : ℕ) → v < k → w < k → v ≢ w → x v · y w ≡ zeros q (size v) (size w))
    → stack_all k size x · beside_all k size y ≡ one q (total k size)
unfolding stack_all beside_all
stack_beside_one zero size x y e z = no_rows _ _
stack_beside_one {q} (suc k) size x y e z =
    stack_mul (stack_all k size x) (x k) (beside (beside_all k size y) (y k))
    ∙ ap₂ stack
    (mul_beside (stack_all k size x) (beside_all k size y) (y k)
    ∙ ap₂ beside
    (stack_beside_one k size x y (λ v h. e v (omega arith)) (λ v w h i d. z v w (omega arith) (omega arith) d))
    (stack_all_mul k size x (y k) ∙ stack_all-same size k _ _ (λ v h. z v k (omega arith) (omega arith) (omega arith)) ∙ stack_all-zeros size k))
    (mul_beside (x k) (beside_all k size y) (y k)
    ∙ ap₂ beside
    (mul_beside_all k size (x k) y ∙ beside_all-same size k _ _ (λ v h. z k v (omega arith) (omega arith) (omega arith)) ∙ beside_all-zeros size k)
    (e k (omega arith)))
    ∙ one_blocks q (total k size) (size k)
