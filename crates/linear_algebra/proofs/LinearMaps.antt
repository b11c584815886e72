-- Linear functions: the matrix of one, combinations of rows, and flattening.
use Rattle.std.proofs.Common.{ℕ, zero, suc, ◌+◌, ◌*◌, ◌/◌, ◌%◌, ◌<◌, ◌≡◌, ltb, inl, inr, refl, sym, ap, ap₂, ◌∙◌, arith, subst, lt-ltb, mod-eq_of_lt, div-add-mod', mod-lt}
use Rattle.std.proofs.lemmas.Bool.{cases_lt, cond-true}
use Rattle.std.proofs.lemmas.Nat.{div-mul-add, mod-mul-add}
use mathlib.Core.Path.{fun_ext}
use Rattle.linear_algebra.specs.Field.{Gf, add, mul}
use Rattle.linear_algebra.specs.Sums.{sum_to, sum-none, sum-suc}
use Rattle.linear_algebra.specs.Matrix.{Mat, Row, Mat-eq_below, zeros, one, ◌⊞◌, ◌⊙◌, ◌·◌}
use Rattle.linear_algebra.specs.Parts.{row, unit}
use Rattle.linear_algebra.specs.Families.{combine}
use Rattle.linear_algebra.specs.LinearMaps.{IsLinear, matrix_of, flatten, unflatten}
use Rattle.linear_algebra.proofs.MatrixLaws.{mul_one_mat, add_mul_mat, mul_add_mat, scale_mul, mul_scale, zero_scale}
use Rattle.linear_algebra.proofs.PartsLaws.{Row-eq, row-at, made-at, unit-row}

-- The entries of a combination.
pub combine-at : {q : Gf} {m n : ℕ} (s : ℕ) (c : ℕ → ℕ) (g : ℕ → Mat q m n) (i j : ℕ) → (combine s c g).at i j ≡ sum_to q s (λ t. mul q (c t) ((g t).at i j))
unfolding combine zeros ◌⊞◌ ◌⊙◌
combine-at {q} zero c g i j = sym (sum-none q _)
combine-at {q} (suc s) c g i j = ap (λ z. add q z (mul q (c s) ((g s).at i j))) (combine-at s c g i j) ∙ sym (sum-suc q s _)

pub combine-same_members : {q : Gf} {m n : ℕ} (s : ℕ) (c : ℕ → ℕ) (g h : ℕ → Mat q m n) → ((i : ℕ) → i < s → g i ≡ h i) → combine s c g ≡ combine s c h
unfolding combine
combine-same_members zero c g h e = refl
combine-same_members (suc s) c g h e = ap₂ (λ u v. u ⊞ v) (combine-same_members s c g h (λ i l. e i (omega arith))) (ap (λ z. c s ⊙ z) (e s (omega arith)))

-- A row times a matrix is the combination of its rows.
pub mul_rows : {q : Gf} {m n : ℕ} (x : Row q m) (a : Mat q m n) → x · a ≡ combine m (x.at 0) (λ i. row i a)
unfolding ◌·◌
mul_rows {q} {m} x a = Row-eq _ _ (λ j h. sym (combine-at m (x.at 0) (λ i. row i a) 0 j ∙ ap (sum_to q m) (fun_ext (λ t. ap (mul q (x.at 0 t)) (row-at t a j)))))

pub as_units : {q : Gf} {m : ℕ} (x : Row q m) → x ≡ combine m (x.at 0) (unit q m)
as_units {q} {m} x = sym (mul_one_mat x) ∙ mul_rows x (one q m) ∙ ap (combine m (x.at 0)) (fun_ext (λ i. sym (unit-row q m i)))

-- A linear function goes with combinations.
pub linear_zeros : {q : Gf} {m n k l : ℕ} (f : Mat q m n → Mat q k l) → IsLinear f → f (zeros q m n) ≡ zeros q k l
linear_zeros {q} {m} {n} f h = ap f (sym (zero_scale (zeros q m n))) ∙ h.multiple 0 (zeros q m n) ∙ zero_scale (f (zeros q m n))

pub linear_combine : {q : Gf} {m n k l : ℕ} (f : Mat q m n → Mat q k l) → IsLinear f → (s : ℕ) (c : ℕ → ℕ) (g : ℕ → Mat q m n) → f (combine s c g) ≡ combine s c (λ i. f (g i))
unfolding combine
linear_combine f h zero c g = linear_zeros f h
linear_combine f h (suc s) c g = h.sum (combine s c g) (c s ⊙ g s) ∙ ap₂ (λ u v. u ⊞ v) (linear_combine f h s c g) (h.multiple (c s) (g s))

-- The matrix of a linear function of rows.
pub row-matrix_of : {q : Gf} {m n : ℕ} (f : Row q m → Row q n) (i : ℕ) → i < m → row i (matrix_of f) ≡ f (unit q m i)
unfolding matrix_of
row-matrix_of {q} {m} {n} f i h = Row-eq _ _ (λ j k. row-at i (matrix_of f) j ∙ made-at q m n (λ i j. (f (unit q m i)).at 0 j) i j h k ∙ mod-eq_of_lt ((f (unit q m i)).fits.small 0 j))

pub mul-matrix_of : {q : Gf} {m n : ℕ} (f : Row q m → Row q n) → IsLinear f → (x : Row q m) → x · matrix_of f ≡ f x
mul-matrix_of {q} {m} f h x =
    mul_rows x (matrix_of f)
    ∙ combine-same_members m (x.at 0) (λ i. row i (matrix_of f)) (λ i. f (unit q m i)) (λ i l. row-matrix_of f i l)
    ∙ sym (linear_combine f h m (x.at 0) (unit q m)) ∙ ap f (sym (as_units x))

pub linear_mul_right : {q : Gf} {m n k : ℕ} (b : Mat q n k) → IsLinear (λ (a : Mat q m n). a · b)
linear_mul_right b = record { sum = λ a c. add_mul_mat a c b; multiple = λ c a. scale_mul c a b }

pub linear_mul_left : {q : Gf} {m n k : ℕ} (b : Mat q k m) → IsLinear (λ (a : Mat q m n). b · a)
linear_mul_left b = record { sum = λ a c. mul_add_mat b a c; multiple = λ c a. mul_scale c b a }

pub linear_compose : {q : Gf} {m n k l u v : ℕ} (f : Mat q m n → Mat q k l) (g : Mat q k l → Mat q u v) → IsLinear f → IsLinear g → IsLinear (λ a. g (f a))
linear_compose f g h k = record { sum = λ a b. ap g (h.sum a b) ∙ k.sum (f a) (f b); multiple = λ c a. ap g (h.multiple c a) ∙ k.multiple c (f a) }

-- Flattening.
module _ {q : Gf} (m n : ℕ) where
  pub flatten-at : (a : Mat q m n) (i j : ℕ) → j < n → (flatten a).at 0 (i * n + j) ≡ a.at i j
  unfolding flatten
  flatten-at a i j h = ap₂ a.at (div-mul-add i n j h) (mod-mul-add i n j h)

  pub unflatten-at : (x : Row q (m * n)) (i j : ℕ) → j < n → (unflatten m n x).at i j ≡ x.at 0 (i * n + j)
  unfolding unflatten
  unflatten-at x i j h = cond-true (ltb j n) (x.at 0 (i * n + j)) zero (lt-ltb j n h)

  pub unflatten_flatten : (a : Mat q m n) → unflatten m n (flatten a) ≡ a
  unflatten_flatten a = Mat-eq_below _ _ (λ i j h k. unflatten-at (flatten a) i j k ∙ flatten-at a i j k)

  pub flatten_unflatten : (x : Row q (m * n)) → flatten (unflatten m n x) ≡ x
  unfolding flatten
  flatten_unflatten x = Row-eq _ _ (λ k h.
      unflatten-at x (k / n) (k % n) (mod-lt k (columns k h)) ∙ ap (x.at 0) (div-add-mod' k n))
    where
      columns : (k : ℕ) → k < m * n → 0 < n
      columns k h = elim (cases_lt 0 n) [ inl p ↦ p | inr z ↦ absurd (let none : n ≡ 0 = omega arith in let bad : k < m * 0 = subst (λ n. k < m * n) none h in omega arith) ]

  pub flatten_sum : (a b : Mat q m n) → flatten (a ⊞ b) ≡ flatten a ⊞ flatten b
  unfolding flatten ◌⊞◌
  flatten_sum a b = Row-eq _ _ (λ k h. refl)

  pub flatten_scale : (c : ℕ) (a : Mat q m n) → flatten (c ⊙ a) ≡ c ⊙ flatten a
  unfolding flatten ◌⊙◌
  flatten_scale c a = Row-eq _ _ (λ k h. refl)

  pub linear_flatten : IsLinear (λ (a : Mat q m n). flatten a)
  linear_flatten = record { sum = flatten_sum; multiple = flatten_scale }
