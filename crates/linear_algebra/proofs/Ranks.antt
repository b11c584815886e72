-- How ranks go with products, spans, inverses and powers.
use Rattle.std.proofs.Common.{ℕ, ◌+◌, ◌≤◌, ◌≡◌, refl, sym, ap, ◌∙◌, arith, subst, le_antisymm}
use Rattle.linear_algebra.specs.Field.{Gf}
use Rattle.linear_algebra.specs.Matrix.{Mat, Row, zeros, one, ◌·◌}
use Rattle.linear_algebra.specs.Rank.{IsInSpan, HasRightInverse, HasLeftInverse, HasInverse, RankFactorisation, Complement}
use Rattle.linear_algebra.specs.Powers.{mat_power}
use Rattle.linear_algebra.proofs.MatrixLaws.{mul_assoc_mat, mul_one_mat, one_mul_mat}
use Rattle.linear_algebra.proofs.Blocks.{no_rows_zeros}
use Rattle.linear_algebra.proofs.Steinitz.{through_none}
use Rattle.linear_algebra.proofs.Subspaces.{inclusion_size, through_zero}
use Rattle.linear_algebra.proofs.Exactness.{by_kernel_rows}
use Rattle.linear_algebra.proofs.RankExists.{rank_factorisation}
use Rattle.linear_algebra.specs.Ranks.{rank}
use Rattle.linear_algebra.proofs.Dimension.{rank_is, rank_product_left, rank_product_right, rank_le_rows, rank_le_columns, complement, kernel_spans}
use Rattle.linear_algebra.proofs.Inverses.{right_inverse_first, left_inverse_second, right_inverse_square, left_inverse_square, inverse_product, mat_power-add}
use Rattle.linear_algebra.proofs.Fitting.{powers_settle}

pub rank_mul_le_left : {q : Gf} {m k n : ℕ} (f : Mat q m k) (g : Mat q k n) → rank (f · g) ≤ rank f
unfolding rank
rank_mul_le_left f g = rank_product_left f g (rank_factorisation (f · g)) (rank_factorisation f)

pub rank_mul_le_right : {q : Gf} {m k n : ℕ} (f : Mat q m k) (g : Mat q k n) → rank (f · g) ≤ rank g
unfolding rank
rank_mul_le_right f g = rank_product_right f g (rank_factorisation (f · g)) (rank_factorisation g)

pub rank_at_most_rows : {q : Gf} {m n : ℕ} (f : Mat q m n) → rank f ≤ m
unfolding rank
rank_at_most_rows f = rank_le_rows (rank_factorisation f)

pub rank_at_most_columns : {q : Gf} {m n : ℕ} (f : Mat q m n) → rank f ≤ n
unfolding rank
rank_at_most_columns f = rank_le_columns (rank_factorisation f)

-- Rows in a span have no greater rank, so equal spans have equal rank.
pub rank_in_span : {q : Gf} {m k n : ℕ} (f : Mat q m n) (y : Mat q k n) → IsInSpan f y → rank y ≤ rank f
rank_in_span f y s = subst (λ z. rank z ≤ rank f) s.is (rank_mul_le_right s.by f)

pub rank_same_span : {q : Gf} {m k n : ℕ} (f : Mat q m n) (y : Mat q k n) → IsInSpan f y → IsInSpan y f → rank y ≡ rank f
rank_same_span f y s t = le_antisymm (rank_in_span f y s) (rank_in_span y f t)

-- Multiplying by a matrix that is undone on that side keeps the rank.
pub rank_mul_right_inverse : {q : Gf} {m k n : ℕ} (f : Mat q m k) (g : Mat q k n) → HasRightInverse g → rank (f · g) ≡ rank f
rank_mul_right_inverse f g i =
    let back : f · g · i.inverse ≡ f = mul_assoc_mat f g i.inverse ∙ ap (λ z. f · z) i.is ∙ mul_one_mat f in
    le_antisymm (rank_mul_le_left f g) (subst (λ z. rank z ≤ rank (f · g)) back (rank_mul_le_left (f · g) i.inverse))

pub rank_mul_left_inverse : {q : Gf} {m k n : ℕ} (f : Mat q m k) (g : Mat q k n) → HasLeftInverse f → rank (f · g) ≡ rank g
rank_mul_left_inverse f g i =
    let back : i.inverse · (f · g) ≡ g = sym (mul_assoc_mat i.inverse f g) ∙ ap (λ z. z · g) i.is ∙ one_mul_mat g in
    le_antisymm (rank_mul_le_right f g) (subst (λ z. rank z ≤ rank (f · g)) back (rank_mul_le_right i.inverse (f · g)))

pub rank_right_inverse : {q : Gf} {m n : ℕ} (f : Mat q m n) → HasRightInverse f → rank f ≡ m
rank_right_inverse {q} {m} f i = rank_is (record {
  size = m;
  into = one q m;
  basis = f;
  left = one q m;
  right = i.inverse;
  product = one_mul_mat f;
  left_inverse = mul_one_mat (one q m);
  right_inverse = i.is;
})

pub rank_left_inverse : {q : Gf} {m n : ℕ} (f : Mat q m n) → HasLeftInverse f → rank f ≡ n
rank_left_inverse {q} {m} {n} f i = rank_is (record {
  size = n;
  into = f;
  basis = one q n;
  left = i.inverse;
  right = one q n;
  product = mul_one_mat f;
  left_inverse = i.is;
  right_inverse = mul_one_mat (one q n);
})

-- The ranks of the powers of a matrix of size d do not change from the exponent d on.
pub rank_of_powers : {q : Gf} {d : ℕ} (x : Mat q d d) (e j : ℕ) → d ≤ e → rank (mat_power x (e + j)) ≡ rank (mat_power x e)
rank_of_powers x e j h =
    rank_same_span (mat_power x e) (mat_power x (e + j))
    (record { by = mat_power x j; is = sym (mat_power-add x j e) ∙ ap (mat_power x) (omega arith) })
    (powers_settle x e j h)

-- If a product of square matrices is invertible, so is each factor.
module _ {q : Gf} {n : ℕ} (x y : Mat q n n) (i : HasInverse (x · y)) where
  pub first_factor_inverse : HasInverse x
  first_factor_inverse = right_inverse_square x refl (right_inverse_first x y (record { inverse = i.inverse; is = i.right }))

  pub second_factor_inverse : HasInverse y
  second_factor_inverse = left_inverse_square y refl (left_inverse_second x y (record { inverse = i.inverse; is = i.left }))

-- Full rank: the inverse of a square matrix.
module _ {q : Gf} {n : ℕ} (f : Mat q n n) where
  pub inverse_of_rank : rank f ≡ n → HasInverse f
  inverse_of_rank e = go (rank_factorisation f)
    where
      go : RankFactorisation f → HasInverse f
      go F =
          let same : n ≡ F.size = sym e ∙ rank_is F in
          subst HasInverse F.product
          (inverse_product F.into F.basis (left_inverse_square F.into same (record { inverse = F.left; is = F.left_inverse }))
          (right_inverse_square F.basis (sym same) (record { inverse = F.right; is = F.right_inverse })))

  pub rank_of_inverse : HasInverse f → rank f ≡ n
  rank_of_inverse i = rank_right_inverse f (record { inverse = i.inverse; is = i.right })

-- Rank zero: the zero matrix.
module _ {q : Gf} {m n : ℕ} (f : Mat q m n) where
  pub zeros_of_rank : rank f ≡ 0 → f ≡ zeros q m n
  zeros_of_rank e = go (rank_factorisation f)
    where
      go : RankFactorisation f → f ≡ zeros q m n
      go F = sym F.product ∙ through_zero F.into F.basis (sym (rank_is F) ∙ e)

  pub rank_of_zeros : f ≡ zeros q m n → rank f ≡ 0
  rank_of_zeros e = subst (λ a. rank a ≡ 0) (sym e) (rank_is (record {
    size = 0;
    into = zeros q m 0;
    basis = zeros q 0 n;
    left = zeros q 0 m;
    right = zeros q n 0;
    product = through_none (zeros q m 0) (zeros q 0 n);
    left_inverse = no_rows_zeros refl _ ∙ sym (no_rows_zeros refl _);
    right_inverse = no_rows_zeros refl _ ∙ sym (no_rows_zeros refl _);
  }))

-- Matrices that take the same rows to zero have the same rank.
kernel_no_larger : {q : Gf} {u m n : ℕ} (f : Mat q u m) (g : Mat q u n) → ((x : Row q u) → x · f ≡ zeros q 1 m → x · g ≡ zeros q 1 n) → (C : Complement f) (D : Complement g) → C.nullity ≤ D.nullity
kernel_no_larger f g h C D =
    inclusion_size C.kernel D.kernel (record { inverse = C.retraction; is = C.kernel_retracts })
    (kernel_spans g D C.kernel (by_kernel_rows f g h C.kernel C.kernel_kills))

pub same_kernel_same_rank : {q : Gf} {u m n : ℕ} (f : Mat q u m) (g : Mat q u n) → ((x : Row q u) → x · f ≡ zeros q 1 m → x · g ≡ zeros q 1 n)
    → ((x : Row q u) → x · g ≡ zeros q 1 n → x · f ≡ zeros q 1 m) → rank f ≡ rank g
same_kernel_same_rank f g h k =
    let C = complement f in
    let D = complement g in
    let a = kernel_no_larger f g h C D in
    let b = kernel_no_larger g f k D C in
    let c = C.rank_nullity in
    let d = D.rank_nullity in
    rank_is C.rank ∙ (let e : C.rank.size ≡ D.rank.size = omega arith in e) ∙ sym (rank_is D.rank)
