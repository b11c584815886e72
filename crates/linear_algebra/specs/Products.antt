-- Sets of laws that bring products and sums of matrices to one form, and rules that shorten products.
use Rattle.std.proofs.Common.{ℕ, ◌≡◌, sym, ap, ◌∙◌}
use Rattle.linear_algebra.specs.Field.{Gf}
use Rattle.linear_algebra.specs.Matrix.{Mat, ◌⊞◌, negative, ◌·◌}
use Rattle.linear_algebra.specs.MatrixLaws.{add_comm_mat, add_comm_mat, add_assoc_mat, add_left_comm_mat, add_zeros, zeros_add, add_negative, negative_add, difference, negative_sum, negative_negative, negative_zeros, scale_add, add_scale, scale_scale, one_scale, zero_scale, scale_zeros, scale_negative, mul_one_mat, one_mul_mat, mul_zeros, zeros_mul, mul_add_mat, add_mul_mat, mul_negative, negative_mul, mul_scale, scale_mul, mul_assoc_mat}
use Rattle.linear_algebra.specs.Blocks.{stack_mul, mul_beside, beside_stack, stack_add, beside_add, stack_negative, beside_negative, stack_zeros, beside_zeros}

-- A product of two factors that is known, at the head of a longer product.
pub pull : {q : Gf} {m k n : ℕ} (a : Mat q m k) (b : Mat q k n) {c : Mat q m n} → a · b ≡ c → {l : ℕ} (x : Mat q n l) → a · (b · x) ≡ c · x
pull a b e x = sym (mul_assoc_mat a b x) ∙ ap (λ z. z · x) e

-- What cancels at the head of a sum.
pub add_negative-add : {q : Gf} {m n : ℕ} (a b : Mat q m n) → a ⊞ (negative a ⊞ b) ≡ b
add_negative-add a b = sym (add_assoc_mat a (negative a) b) ∙ ap (λ z. z ⊞ b) (add_negative a) ∙ zeros_add b

pub negative_add-add : {q : Gf} {m n : ℕ} (a b : Mat q m n) → negative a ⊞ (a ⊞ b) ≡ b
negative_add-add a b = sym (add_assoc_mat (negative a) a b) ∙ ap (λ z. z ⊞ b) (negative_add a) ∙ zeros_add b

pub add_add-negative : {q : Gf} {m n : ℕ} (a b : Mat q m n) → a ⊞ (b ⊞ negative a) ≡ b
add_add-negative a b = ap (λ z. a ⊞ z) (add_comm_mat b (negative a)) ∙ add_negative-add a b

pub negative_add-add_last : {q : Gf} {m n : ℕ} (a b : Mat q m n) → negative a ⊞ (b ⊞ a) ≡ b
negative_add-add_last a b = ap (λ z. negative a ⊞ z) (add_comm_mat b a) ∙ negative_add-add a b

-- Products to the right, sums outermost, zeros and units gone.
pub ruleset products = (mul_assoc_mat, mul_one_mat, one_mul_mat, mul_zeros, zeros_mul, add_zeros, zeros_add, negative_zeros, mul_add_mat, add_mul_mat, difference, mul_negative, negative_mul, negative_sum, negative_negative)

-- Sums to the right, and what cancels there.
pub ruleset sums = (add_assoc_mat, add_negative, negative_add, add_negative-add, negative_add-add, add_add-negative, negative_add-add_last)

pub ruleset blocks = (stack_mul, mul_beside, beside_stack, stack_add, beside_add, stack_negative, beside_negative, stack_zeros, beside_zeros)
