-- The calculus of inverses, and powers of square matrices.
use Rattle.std.proofs.Common.{ℕ, zero, suc, ◌+◌, ◌-◌, ◌≤◌, ◌≡◌, refl, sym, ap, ap₂, ◌∙◌, arith, subst, le_antisymm}
use Rattle.linear_algebra.specs.Field.{Gf}
use Rattle.linear_algebra.specs.Matrix.{Mat, zeros, one, ◌⊞◌, ◌⊟◌, ◌·◌, transpose}
use Rattle.linear_algebra.specs.Rank.{HasRightInverse, HasLeftInverse, HasInverse}
use Rattle.linear_algebra.specs.Powers.{mat_power, geometric, IsNilpotent}
use Rattle.linear_algebra.proofs.MatrixLaws.{mul_assoc_mat, mul_one_mat, one_mul_mat, mul_zeros, zeros_mul, mul_add_mat, add_mul_mat, sub_zeros, sub_self_mat, transpose_mul, transpose_one}
use Rattle.linear_algebra.proofs.Products.{products, sums, pull}
use Rattle.linear_algebra.proofs.Steinitz.{steinitz}
use Rattle.linear_algebra.proofs.Dimension.{square_inverse}

module _ {q : Gf} {m n : ℕ} where
  -- A left inverse and a right inverse agree, so an inverse is unique.
  pub inverses_agree : (f : Mat q m n) (l r : Mat q n m) → l · f ≡ one q n → f · r ≡ one q m → l ≡ r
  inverses_agree f l r e d = sym (mul_one_mat l) ∙ ap (λ z. l · z) (sym d) ∙ sym (mul_assoc_mat l f r) ∙ ap (λ z. z · r) e ∙ one_mul_mat r

  pub inverse_unique : (f : Mat q m n) (i j : HasInverse f) → i.inverse ≡ j.inverse
  inverse_unique f i j = inverses_agree f i.inverse j.inverse i.left j.right

  pub inverse_of_both : (f : Mat q m n) → HasLeftInverse f → HasRightInverse f → HasInverse f
  inverse_of_both f l r = record {
    inverse = r.inverse;
    right = r.is;
    left = ap (λ z. z · f) (sym (inverses_agree f l.inverse r.inverse l.is r.is)) ∙ l.is;
  }

  pub inverse_right : (f : Mat q m n) → HasInverse f → HasRightInverse f
  inverse_right f i = record { inverse = i.inverse; is = i.right }

  pub inverse_left : (f : Mat q m n) → HasInverse f → HasLeftInverse f
  inverse_left f i = record { inverse = i.inverse; is = i.left }

  pub inverse_sizes : (f : Mat q m n) → HasInverse f → m ≡ n
  inverse_sizes f i = le_antisymm (steinitz f i.inverse i.right) (steinitz i.inverse f i.left)

  -- A matrix of as many rows as columns with an inverse on one side has an inverse.
  pub right_inverse_square : (f : Mat q m n) → m ≡ n → HasRightInverse f → HasInverse f
  right_inverse_square f e r = subst (λ n. (f : Mat q m n) → HasRightInverse f → HasInverse f) e (λ f r. record { inverse = r.inverse; right = r.is; left = square_inverse f r.inverse r.is }) f r

  pub left_inverse_square : (f : Mat q m n) → m ≡ n → HasLeftInverse f → HasInverse f
  left_inverse_square f e l = subst (λ n. (f : Mat q m n) → HasLeftInverse f → HasInverse f) e (λ f l. record { inverse = l.inverse; right = square_inverse l.inverse f l.is; left = l.is }) f l

pub one_inverse : (q : Gf) (n : ℕ) → HasInverse (one q n)
one_inverse q n = record { inverse = one q n; right = mul_one_mat (one q n); left = mul_one_mat (one q n) }

pub inverse_inverse : {q : Gf} {m n : ℕ} (f : Mat q m n) (i : HasInverse f) → HasInverse i.inverse
inverse_inverse f i = record { inverse = f; right = i.left; left = i.right }

pub inverse_product : {q : Gf} {m k n : ℕ} (f : Mat q m k) (g : Mat q k n) → HasInverse f → HasInverse g → HasInverse (f · g)
inverse_product f g i j = record {
  inverse = j.inverse · i.inverse;
  right = simp (products, pull g j.inverse j.right, i.right);
  left = simp (products, pull i.inverse f i.left, j.left);
}

pub right_inverse_product : {q : Gf} {m k n : ℕ} (f : Mat q m k) (g : Mat q k n) → HasRightInverse f → HasRightInverse g → HasRightInverse (f · g)
right_inverse_product f g i j = record { inverse = j.inverse · i.inverse; is = simp (products, pull g j.inverse j.is, i.is) }

pub left_inverse_product : {q : Gf} {m k n : ℕ} (f : Mat q m k) (g : Mat q k n) → HasLeftInverse f → HasLeftInverse g → HasLeftInverse (f · g)
left_inverse_product f g i j = record { inverse = j.inverse · i.inverse; is = simp (products, pull i.inverse f i.is, j.is) }

-- If f · g has a right inverse then f has; if it has a left inverse then g has.
pub right_inverse_first : {q : Gf} {m k n : ℕ} (f : Mat q m k) (g : Mat q k n) → HasRightInverse (f · g) → HasRightInverse f
right_inverse_first f g i = record { inverse = g · i.inverse; is = sym (mul_assoc_mat f g i.inverse) ∙ i.is }

pub left_inverse_second : {q : Gf} {m k n : ℕ} (f : Mat q m k) (g : Mat q k n) → HasLeftInverse (f · g) → HasLeftInverse g
left_inverse_second f g i = record { inverse = i.inverse · f; is = mul_assoc_mat i.inverse f g ∙ i.is }

-- If x · y and y · x are invertible then x is.
pub inverse_of_products : {q : Gf} {m n : ℕ} (x : Mat q m n) (y : Mat q n m) → HasInverse (x · y) → HasInverse (y · x) → HasInverse x
inverse_of_products x y i j = inverse_of_both x (left_inverse_second y x (inverse_left (y · x) j)) (right_inverse_first x y (inverse_right (x · y) i))

-- Powers.
module _ {q : Gf} {n : ℕ} (x : Mat q n n) where
  pub mat_power-zero : mat_power x 0 ≡ one q n
  unfolding mat_power
  mat_power-zero = refl

  pub mat_power-suc : (k : ℕ) → mat_power x (suc k) ≡ x · mat_power x k
  unfolding mat_power
  mat_power-suc k = refl

  pub mat_power-one : mat_power x 1 ≡ x
  unfolding mat_power
  mat_power-one = mul_one_mat x

  pub mat_power-add : (j k : ℕ) → mat_power x (j + k) ≡ mat_power x j · mat_power x k
  unfolding mat_power
  mat_power-add zero k = ap (mat_power x) (omega arith) ∙ sym (one_mul_mat (mat_power x k))
  mat_power-add (suc j) k =
      let same : suc j + k ≡ suc (j + k) = omega arith in
      ap (mat_power x) same ∙ ap (λ z. x · z) (mat_power-add j k) ∙ sym (mul_assoc_mat x (mat_power x j) (mat_power x k))

  pub mat_power-last : (k : ℕ) → mat_power x (suc k) ≡ mat_power x k · x
  mat_power-last k =
      let same : suc k ≡ k + 1 = omega arith in
      ap (mat_power x) same ∙ mat_power-add k 1 ∙ ap (λ z. mat_power x k · z) mat_power-one

  pub mat_power_past : (j k : ℕ) → j ≤ k → mat_power x j ≡ zeros q n n → mat_power x k ≡ zeros q n n
  mat_power_past j k h e =
      let same : k ≡ j + (k - j) = omega arith in
      ap (mat_power x) same ∙ mat_power-add j (k - j) ∙ ap (λ z. z · mat_power x (k - j)) e ∙ zeros_mul (mat_power x (k - j))

  -- (1 − x)(1 + x + .. + x^(k − 1)) = 1 − x^k
  pub telescope : (k : ℕ) → (one q n ⊟ x) · geometric x k ≡ one q n ⊟ mat_power x k
  unfolding geometric mat_power
  telescope zero = mul_zeros (one q n ⊟ x) ∙ sym (sub_self_mat (one q n))
  telescope (suc k) = mul_add_mat (one q n ⊟ x) (geometric x k) (mat_power x k) ∙ ap (λ z. z ⊞ (one q n ⊟ x) · mat_power x k) (telescope k) ∙ simp (products, sums)

  pub geometric_commutes : (k : ℕ) → geometric x k · x ≡ x · geometric x k
  unfolding geometric
  geometric_commutes zero = zeros_mul x ∙ sym (mul_zeros x)
  geometric_commutes (suc k) =
      add_mul_mat (geometric x k) (mat_power x k) x ∙ ap₂ (λ u v. u ⊞ v) (geometric_commutes k) (sym (mat_power-last k) ∙ mat_power-suc k)
      ∙ sym (mul_add_mat x (geometric x k) (mat_power x k))

  -- For nilpotent x, 1 − x is invertible.
  pub one_minus_nilpotent : IsNilpotent x → HasInverse (one q n ⊟ x)
  one_minus_nilpotent h =
      let over : (one q n ⊟ x) · geometric x h.exponent ≡ one q n = telescope h.exponent ∙ ap (λ z. one q n ⊟ z) h.vanishes ∙ sub_zeros (one q n) in
      record { inverse = geometric x h.exponent; right = over; left = square_inverse (one q n ⊟ x) (geometric x h.exponent) over }

-- A matrix that carries x to y carries the powers of x to those of y.
pub power_intertwines : {q : Gf} {m n : ℕ} (x : Mat q m m) (f : Mat q m n) (y : Mat q n n) → x · f ≡ f · y → (k : ℕ) → mat_power x k · f ≡ f · mat_power y k
unfolding mat_power
power_intertwines x f y e zero = one_mul_mat f ∙ sym (mul_one_mat f)
power_intertwines x f y e (suc k) =
    mul_assoc_mat x (mat_power x k) f ∙ ap (λ z. x · z) (power_intertwines x f y e k) ∙ sym (mul_assoc_mat x f (mat_power y k))
    ∙ ap (λ z. z · mat_power y k) e ∙ mul_assoc_mat f y (mat_power y k)

pub transpose_power : {q : Gf} {n : ℕ} (x : Mat q n n) (k : ℕ) → transpose (mat_power x k) ≡ mat_power (transpose x) k
unfolding mat_power
transpose_power {q} {n} x zero = transpose_one q n
transpose_power x (suc k) =
    transpose_mul x (mat_power x k) ∙ ap (λ z. z · transpose x) (transpose_power x k) ∙ sym (mat_power-last (transpose x) k)

-- The powers of an invertible matrix are invertible.
pub power_inverse : {q : Gf} {n : ℕ} (x : Mat q n n) → HasInverse x → (k : ℕ) → HasInverse (mat_power x k)
power_inverse {q} {n} x i zero = subst HasInverse (sym (mat_power-zero x)) (one_inverse q n)
power_inverse x i (suc k) = subst HasInverse (sym (mat_power-suc x k)) (inverse_product x (mat_power x k) i (power_inverse x i k))
