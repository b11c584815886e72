-- What a rank factorisation gives: kernels, solutions of linear equations, separating columns, one-sided inverses.
use Rattle.std.proofs.Common.{ℕ, zero, ◌<◌, ◌≡◌, ◌≢◌, ◌⊎◌, inl, inr, refl, sym, ap, ap₂, ◌∙◌, arith}
use Rattle.linear_algebra.specs.Field.{Gf}
use Rattle.linear_algebra.specs.Matrix.{Mat, Row, Column, zeros, one, ◌⊞◌, ◌⊟◌, ◌·◌, transpose}
use Rattle.linear_algebra.specs.Parts.{row, unit, unit_column}
use Rattle.linear_algebra.specs.Rank.{RankFactorisation, IsInSpan, HasRightInverse, HasLeftInverse, HasInverse, IsInjective, IsSurjective, IsSeparate, IsInColumnSpan, IsColumnSeparate}
use Rattle.linear_algebra.proofs.MatrixLaws.{mul_assoc_mat, sub_eq_zeros, mul_one_mat, one_mul_mat, mul_zeros, zeros_mul, sub_self_mat, add_mul_mat, transpose_transpose, transpose_mul, transpose_one, transpose_zeros}
use Rattle.linear_algebra.proofs.PartsLaws.{rows_equal, row_zeros, row-mul, row-at, column-at, mul_unit_column, unit_mul, invertible_1, one_1-at}
use Rattle.linear_algebra.proofs.Products.{products, sums, pull}
use Rattle.linear_algebra.proofs.Search.{HasEntry, entry_or_zeros}
use Rattle.linear_algebra.proofs.RankExists.{rank_factorisation}

module _ {q : Gf} {m n : ℕ} {f : Mat q m n} (F : RankFactorisation f) where
  -- The kernel of f is the span of the rows of 1 − into · left.
  unfoldable pub kernel_rows : Mat q m m
  kernel_rows = one q m ⊟ F.into · F.left

  pub left_f : F.left · f ≡ F.basis
  left_f = ap (λ z. F.left · z) (sym F.product) ∙ sym (mul_assoc_mat F.left F.into F.basis) ∙ ap (λ z. z · F.basis) F.left_inverse ∙ one_mul_mat F.basis

  pub f_right : f · F.right ≡ F.into
  f_right = ap (λ z. z · F.right) (sym F.product) ∙ mul_assoc_mat F.into F.basis F.right ∙ ap (λ z. F.into · z) F.right_inverse ∙ mul_one_mat F.into

  pub kernel_rows_kill : kernel_rows · f ≡ zeros q m n
  unfolding kernel_rows
  kernel_rows_kill = simp (products, left_f, F.product, sums)

  pub into_zeros : {k : ℕ} (x : Mat q k m) → x · f ≡ zeros q k n → x · F.into ≡ zeros q k F.size
  into_zeros {k} x e = ap (λ z. x · z) (sym f_right) ∙ sym (mul_assoc_mat x f F.right) ∙ ap (λ z. z · F.right) e ∙ zeros_mul F.right

  pub kernel_rows_span : {k : ℕ} (x : Mat q k m) → x · f ≡ zeros q k n → x ≡ x · kernel_rows
  unfolding kernel_rows
  kernel_rows_span {k} x e = simp (products, pull x F.into (into_zeros x e))

  kernel_rows_on : {k : ℕ} (b : Mat q m k) → kernel_rows · b ≡ b ⊟ F.into · (F.left · b)
  unfolding kernel_rows
  kernel_rows_on b = simp (products)

  -- y is a combination of the rows of f exactly where y (1 − right · basis) is zero.
  unfoldable pub span_test : Mat q n n
  span_test = one q n ⊟ F.right · F.basis

  pub f_span_test : f · span_test ≡ zeros q m n
  unfolding span_test
  f_span_test = simp (products, pull f F.right f_right, F.product, sums)

  pub passes_in_span : {k : ℕ} (y : Mat q k n) → y · span_test ≡ zeros q k n → IsInSpan f y
  unfolding span_test
  passes_in_span {k} y e = record {
    by = y · (F.right · F.left);
    is = simp (products, left_f) (sym (sub_eq_zeros y (y · (F.right · F.basis)) (simp (products) (simp (products) at e))));
  }

  pub in_span_passes : {k : ℕ} (y : Mat q k n) → IsInSpan f y → y · span_test ≡ zeros q k n
  in_span_passes {k} y s = ap (λ z. z · span_test) (sym s.is) ∙ mul_assoc_mat s.by f span_test ∙ ap (λ z. s.by · z) f_span_test ∙ mul_zeros s.by

  -- What is zero on the kernel of f factors through f.
  pub kernel_decides : {k : ℕ} (b : Mat q m k) → ((x : Row q m) → x · f ≡ zeros q 1 n → x · b ≡ zeros q 1 k) → kernel_rows · b ≡ zeros q m k
  kernel_decides {k} b h = rows_equal _ _ (λ i l.
      row-mul i kernel_rows b ∙ h (row i kernel_rows) (sym (row-mul i kernel_rows f) ∙ ap (row i) kernel_rows_kill ∙ row_zeros q m n i) ∙ sym (row_zeros q m k i))

  pub factors_of : {k : ℕ} (b : Mat q m k) → ((x : Row q m) → x · f ≡ zeros q 1 n → x · b ≡ zeros q 1 k) → IsInColumnSpan f b
  factors_of {k} b h = record {
    by = F.right · (F.left · b);
    is = simp (pull f F.right f_right) (sym (sub_eq_zeros b (F.into · (F.left · b)) (split b (kernel_decides b h))));
  }
    where
      split : (b : Mat q m k) → kernel_rows · b ≡ zeros q m k → b ⊟ F.into · (F.left · b) ≡ zeros q m k
      split b e = sym (kernel_rows_on b) ∙ e

-- A column that is zero on rows, and a row that is 1 there.
pub zeros_not_one : (q : Gf) → zeros q 1 1 ≢ one q 1
unfolding zeros
zeros_not_one q e =
    let bad : zero ≡ 1 = ap (λ (z : Mat q 1 1). z.at 0 0) e ∙ one_1-at q in
    omega arith

-- A row with an entry that is not zero is 1 on a column.
pub unit_value : {q : Gf} {n : ℕ} {y : Row q n} (h : HasEntry y) → HasInverse (y · unit_column q n h.place)
unit_value {q} {n} {y} h =
    let first : h.line ≡ 0 = omega (arith, h.line_below) in
    let value : (y · unit_column q n h.place).at 0 0 ≡ y.at h.line h.place =
    ap (λ (z : Mat q 1 1). z.at 0 0) (mul_unit_column y h.place) ∙ column-at h.place y 0 ∙ ap (λ i. y.at i h.place) (sym first) in
    invertible_1 (y · unit_column q n h.place) (λ e. h.nonzero (sym value ∙ e))

-- A matrix that is not zero is seen by a row and a column; so each matrix is seen or zero.
pub record IsSeen {q : Gf} {m n : ℕ} (a : Mat q m n) : Type 0 where
  pub from : Row q m
  pub to : Column q n
  pub is : from · (a · to) ≡ one q 1

row_entry : {q : Gf} {m n : ℕ} (a : Mat q m n) (h : HasEntry a) → HasEntry (row h.line a)
row_entry a h = record { line = 0; place = h.place; line_below = omega arith; place_below = h.place_below; nonzero = λ z. h.nonzero (sym (row-at h.line a h.place) ∙ z) }

pub seen : {q : Gf} {m n : ℕ} (a : Mat q m n) → HasEntry a → IsSeen a
seen {q} {m} {n} a h =
    let r = row_entry a h in
    let w = unit_value r in
    record {
      from = unit q m h.line;
      to = unit_column q n r.place · w.inverse;
      is = sym (mul_assoc_mat (unit q m h.line) a (unit_column q n r.place · w.inverse))
          ∙ ap (λ z. z · (unit_column q n r.place · w.inverse)) (unit_mul h.line a)
          ∙ sym (mul_assoc_mat (row h.line a) (unit_column q n r.place) w.inverse) ∙ w.right;
    }

pub seen_or_zeros : {q : Gf} {m n : ℕ} (a : Mat q m n) → IsSeen a ⊎ (a ≡ zeros q m n)
seen_or_zeros a = elim (entry_or_zeros a) [ inl h ↦ inl (seen a h) | inr e ↦ inr e ]

pub not_seen : {q : Gf} {m n : ℕ} (a : Mat q m n) → a ≡ zeros q m n → IsSeen a → ⊥
not_seen {q} a e s = zeros_not_one q (sym (ap (λ z. s.from · (z · s.to)) e ∙ ap (λ z. s.from · z) (zeros_mul s.to) ∙ mul_zeros s.from) ∙ s.is)

-- Equal or not.
pub equal_or_not : {q : Gf} {m n : ℕ} (a b : Mat q m n) → (a ≡ b) ⊎ (a ≢ b)
equal_or_not {q} {m} {n} a b = elim (seen_or_zeros (a ⊟ b)) [
  | inl s ↦ inr (λ e. not_seen (a ⊟ b) (ap (λ z. z ⊟ b) e ∙ sub_self_mat b) s)
  | inr z ↦ inl (sub_eq_zeros a b z)
]

module _ {q : Gf} {m n : ℕ} where
  pub separate_not_in_span : (f : Mat q m n) (y : Row q n) → IsSeparate f y → IsInSpan f y → ⊥
  separate_not_in_span f y s i =
      zeros_not_one q (sym (ap (λ z. z · s.functional) (sym i.is) ∙ mul_assoc_mat i.by f s.functional ∙ ap (λ z. i.by · z) s.kills ∙ mul_zeros i.by) ∙ s.sees)

  -- A row is a combination of the rows of f, or a column separates it from them.
  pub solve_or : (f : Mat q m n) (y : Row q n) → IsInSpan f y ⊎ IsSeparate f y
  solve_or f y = go (entry_or_zeros (y · span_test F))
    where
      F : RankFactorisation f
      F = rank_factorisation f

      found : (h : HasEntry (y · span_test F)) → HasInverse (y · span_test F · unit_column q n h.place) → IsSeparate f y
      found h i = record {
        functional = span_test F · (unit_column q n h.place · i.inverse);
        kills = simp (pull f (span_test F) (f_span_test F), zeros_mul);
        sees = sym (mul_assoc_mat y (span_test F) (unit_column q n h.place · i.inverse)) ∙ sym (mul_assoc_mat (y · span_test F) (unit_column q n h.place) i.inverse) ∙ i.right;
      }

      go : HasEntry (y · span_test F) ⊎ (y · span_test F ≡ zeros q 1 n) → IsInSpan f y ⊎ IsSeparate f y
      go (inl h) = inr (found h (unit_value h))
      go (inr e) = inl (passes_in_span F y e)

  pub in_span_or_not : (f : Mat q m n) (y : Row q n) → IsInSpan f y ⊎ (IsInSpan f y → ⊥)
  in_span_or_not f y = elim (solve_or f y) [ inl i ↦ inl i | inr s ↦ inr (separate_not_in_span f y s) ]

  -- What is zero on each row that f takes to zero factors through f.
  pub factors_through : {k : ℕ} (f : Mat q m n) (b : Mat q m k) → ((x : Row q m) → x · f ≡ zeros q 1 n → x · b ≡ zeros q 1 k) → IsInColumnSpan f b
  factors_through f b h = factors_of (rank_factorisation f) b h

  -- Each row in the span, all rows in the span.
  pub in_span_by_rows : {k : ℕ} (f : Mat q m n) (y : Mat q k n) → ((i : ℕ) → i < k → IsInSpan f (row i y)) → IsInSpan f y
  in_span_by_rows {k} f y h = passes_in_span F y (rows_equal _ _ (λ i l. row-mul i y (span_test F) ∙ in_span_passes F (row i y) (h i l) ∙ sym (row_zeros q k n i)))
    where
      F : RankFactorisation f
      F = rank_factorisation f

  pub row_in_span : {k : ℕ} (f : Mat q m n) (y : Mat q k n) (i : ℕ) → IsInSpan f y → IsInSpan f (row i y)
  row_in_span f y i s = record { by = row i s.by; is = sym (row-mul i s.by f) ∙ ap (row i) s.is }

  pub in_span_trans : {k l : ℕ} (f : Mat q m n) (y : Mat q k n) (z : Mat q l n) → IsInSpan f y → IsInSpan y z → IsInSpan f z
  in_span_trans f y z s t = record { by = t.by · s.by; is = mul_assoc_mat t.by s.by f ∙ ap (λ w. t.by · w) s.is ∙ t.is }

  pub in_span_self : (f : Mat q m n) → IsInSpan f f
  in_span_self f = record { by = one q m; is = one_mul_mat f }

  pub in_span_mul : {k : ℕ} (f : Mat q m n) (c : Mat q k m) → IsInSpan f (c · f)
  in_span_mul f c = record { by = c; is = refl }

  pub in_span_sum : {k : ℕ} (f : Mat q m n) (y z : Mat q k n) → IsInSpan f y → IsInSpan f z → IsInSpan f (y ⊞ z)
  in_span_sum f y z s t = record { by = s.by ⊞ t.by; is = add_mul_mat s.by t.by f ∙ ap₂ (λ u v. u ⊞ v) s.is t.is }

  pub in_span_image : {l : ℕ} {k : ℕ} (f : Mat q m n) (y : Mat q k n) (g : Mat q n l) → IsInSpan f y → IsInSpan (f · g) (y · g)
  in_span_image f y g s = record { by = s.by; is = sym (mul_assoc_mat s.by f g) ∙ ap (λ z. z · g) s.is }

  -- Injective maps are those with a right inverse, surjective maps those with a left inverse.
  pub injective_right_inverse : (f : Mat q m n) → IsInjective f → HasRightInverse f
  injective_right_inverse f h =
      let i = factors_through f (one q m) (λ x e. mul_one_mat x ∙ h x e) in
      record { inverse = i.by; is = i.is }

  pub right_inverse_injective : {k : ℕ} (f : Mat q m n) → HasRightInverse f → (x : Mat q k m) → x · f ≡ zeros q k n → x ≡ zeros q k m
  right_inverse_injective f i x e = sym (mul_one_mat x) ∙ ap (λ z. x · z) (sym i.is) ∙ sym (mul_assoc_mat x f i.inverse) ∙ ap (λ z. z · i.inverse) e ∙ zeros_mul i.inverse

  pub right_inverse_cancels : {k : ℕ} (f : Mat q m n) → HasRightInverse f → (x y : Mat q k m) → x · f ≡ y · f → x ≡ y
  right_inverse_cancels {k} f i x y e = back x ∙ ap (λ z. z · i.inverse) e ∙ sym (back y)
    where
      back : (x : Mat q k m) → x ≡ x · f · i.inverse
      back x = sym (mul_one_mat x) ∙ ap (λ z. x · z) (sym i.is) ∙ sym (mul_assoc_mat x f i.inverse)

  pub left_inverse_cancels : {k : ℕ} (f : Mat q m n) → HasLeftInverse f → (x y : Mat q n k) → f · x ≡ f · y → x ≡ y
  left_inverse_cancels {k} f i x y e = back x ∙ ap (λ z. i.inverse · z) e ∙ sym (back y)
    where
      back : (x : Mat q n k) → x ≡ i.inverse · (f · x)
      back x = sym (one_mul_mat x) ∙ ap (λ z. z · x) (sym i.is) ∙ mul_assoc_mat i.inverse f x

  pub surjective_left_inverse : (f : Mat q m n) → IsSurjective f → HasLeftInverse f
  surjective_left_inverse f h =
      let i = in_span_by_rows f (one q n) (λ i l. h (row i (one q n))) in
      record { inverse = i.by; is = i.is }

  pub left_inverse_surjective : {k : ℕ} (f : Mat q m n) → HasLeftInverse f → (y : Mat q k n) → IsInSpan f y
  left_inverse_surjective f i y = record { by = y · i.inverse; is = mul_assoc_mat y i.inverse f ∙ ap (λ z. y · z) i.is ∙ mul_one_mat y }

-- The same for columns.
pub cosolve_or : {q : Gf} {m n : ℕ} (f : Mat q m n) (b : Column q m) → IsInColumnSpan f b ⊎ IsColumnSeparate f b
cosolve_or {q} {m} {n} f b = go (solve_or (transpose f) (transpose b))
  where
    go : IsInSpan (transpose f) (transpose b) ⊎ IsSeparate (transpose f) (transpose b) → IsInColumnSpan f b ⊎ IsColumnSeparate f b
    go (inl i) = inl (record {
      by = transpose i.by;
      is = ap (λ z. z · transpose i.by) (sym (transpose_transpose f)) ∙ sym (transpose_mul i.by (transpose f)) ∙ ap transpose i.is ∙ transpose_transpose b;
    })
    go (inr s) = inr (record {
      functional = transpose s.functional;
      kills = ap (λ z. transpose s.functional · z) (sym (transpose_transpose f)) ∙ sym (transpose_mul (transpose f) s.functional) ∙ ap transpose s.kills ∙ transpose_zeros q n 1;
      sees = ap (λ z. transpose s.functional · z) (sym (transpose_transpose b)) ∙ sym (transpose_mul (transpose b) s.functional) ∙ ap transpose s.sees ∙ transpose_one q 1;
    })
