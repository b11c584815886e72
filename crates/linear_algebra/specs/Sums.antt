-- Finite sums in a field, over the places below a number, and their laws.
use Rattle.std.specs.Prelude.{ℕ, zero, suc, ◌+◌, ◌%◌, ◌<◌, ◌≡◌, ◌≢◌, refl}
use Rattle.std.proofs.Common.{not-suc-le-zero, inl, inr, ◌∙◌, arith, sym, ap, ap₂, add-suc, add-zero}
use Rattle.std.proofs.lemmas.Bool.{cases_eq}
use mathlib.Core.Path.{fun_ext}
use Rattle.linear_algebra.specs.Field.{Gf, order, add, mul, neg}
use Rattle.linear_algebra.specs.FieldLaws.{order-pos, add_below, add_comm, add_assoc, add_swap, mul_add, add_mul, mul_zero, zero_mul, add_zero_zero, neg_zero, neg-add, add_zero, zero_add-mod, add-mod_right}

-- f 0 + f 1 + .. + f (n − 1)
unfoldable pub sum_to : Gf → ℕ → (ℕ → ℕ) → ℕ
sum_to q zero f = zero
sum_to q (suc n) f = add q (sum_to q n f) (f n)

pub sum-none : (q : Gf) (f : ℕ → ℕ) → sum_to q zero f ≡ zero
unfolding sum_to
sum-none q f = refl

pub sum-suc : (q : Gf) (n : ℕ) (f : ℕ → ℕ) → sum_to q (suc n) f ≡ add q (sum_to q n f) (f n)
unfolding sum_to
sum-suc q n f = refl

pub sum_below : (q : Gf) (n : ℕ) (f : ℕ → ℕ) → sum_to q n f < order q
unfolding sum_to
sum_below q zero f = order-pos q
sum_below q (suc n) f = add_below q (sum_to q n f) (f n)

-- Sums of equal terms are equal.
pub sum-same : (q : Gf) (n : ℕ) (f g : ℕ → ℕ) → ((i : ℕ) → i < n → f i ≡ g i) → sum_to q n f ≡ sum_to q n g
unfolding sum_to
sum-same q zero f g h = refl
sum-same q (suc n) f g h = ap₂ (add q) (sum-same q n f g (λ i k. h i (omega arith))) (h n (omega arith))

pub sum-ext : (q : Gf) (n : ℕ) (f g : ℕ → ℕ) → ((i : ℕ) → f i ≡ g i) → sum_to q n f ≡ sum_to q n g
sum-ext q n f g h = ap (sum_to q n) (fun_ext h)

-- A sum of zeros is zero.
pub sum_zero : (q : Gf) (n : ℕ) → sum_to q n (λ i. zero) ≡ zero
unfolding sum_to
sum_zero q zero = refl
sum_zero q (suc n) = ap (λ s. add q s zero) (sum_zero q n) ∙ add_zero_zero q

pub sum-zeros : (q : Gf) (n : ℕ) (f : ℕ → ℕ) → ((i : ℕ) → i < n → f i ≡ zero) → sum_to q n f ≡ zero
sum-zeros q n f h = sum-same q n f (λ i. zero) h ∙ sum_zero q n

-- Sums of sums, multiples and negatives.
pub sum-add : (q : Gf) (n : ℕ) (f g : ℕ → ℕ) → sum_to q n (λ i. add q (f i) (g i)) ≡ add q (sum_to q n f) (sum_to q n g)
unfolding sum_to
sum-add q zero f g = sym (add_zero_zero q)
sum-add q (suc n) f g = ap (λ s. add q s (add q (f n) (g n))) (sum-add q n f g) ∙ add_swap q (sum_to q n f) (sum_to q n g) (f n) (g n)

pub mul-sum : (q : Gf) (n a : ℕ) (f : ℕ → ℕ) → mul q a (sum_to q n f) ≡ sum_to q n (λ i. mul q a (f i))
unfolding sum_to
mul-sum q zero a f = mul_zero q a
mul-sum q (suc n) a f = mul_add q a (sum_to q n f) (f n) ∙ ap (λ s. add q s (mul q a (f n))) (mul-sum q n a f)

pub sum-mul : (q : Gf) (n a : ℕ) (f : ℕ → ℕ) → mul q (sum_to q n f) a ≡ sum_to q n (λ i. mul q (f i) a)
unfolding sum_to
sum-mul q zero a f = zero_mul q a
sum-mul q (suc n) a f = add_mul q (sum_to q n f) (f n) a ∙ ap (λ s. add q s (mul q (f n) a)) (sum-mul q n a f)

pub neg-sum : (q : Gf) (n : ℕ) (f : ℕ → ℕ) → neg q (sum_to q n f) ≡ sum_to q n (λ i. neg q (f i))
unfolding sum_to
neg-sum q zero f = neg_zero q
neg-sum q (suc n) f = neg-add q (sum_to q n f) (f n) ∙ ap (λ s. add q s (neg q (f n))) (neg-sum q n f)

-- A sum cut in two.
pub sum-split : (q : Gf) (m n : ℕ) (f : ℕ → ℕ) → sum_to q (m + n) f ≡ add q (sum_to q m f) (sum_to q n (λ i. f (m + i)))
unfolding sum_to
sum-split q m zero f = rw add-zero (sym (add_zero q (sum_to q m f) (sum_below q m f)))
sum-split q m (suc n) f = rw add-suc (ap (λ s. add q s (f (m + n))) (sum-split q m n f) ∙ add_assoc q (sum_to q m f) (sum_to q n (λ i. f (m + i))) (f (m + n)))

pub sum-first : (q : Gf) (n : ℕ) (f : ℕ → ℕ) → sum_to q (suc n) f ≡ add q (f zero) (sum_to q n (λ i. f (suc i)))
unfolding sum_to
sum-first q zero f = add_comm q zero (f zero)
sum-first q (suc n) f = ap (λ s. add q s (f (suc n))) (sum-first q n f) ∙ add_assoc q (f zero) (sum_to q n (λ i. f (suc i))) (f (suc n))

-- Two sums in the other order.
pub sum-swap : (q : Gf) (m n : ℕ) (f : ℕ → ℕ → ℕ) → sum_to q m (λ i. sum_to q n (λ j. f i j)) ≡ sum_to q n (λ j. sum_to q m (λ i. f i j))
unfolding sum_to
sum-swap q zero n f = sym (sum_zero q n)
sum-swap q (suc m) n f = ap (λ s. add q s (sum_to q n (λ j. f m j))) (sum-swap q m n f) ∙ sym (sum-add q n (λ j. sum_to q m (λ i. f i j)) (λ j. f m j))

-- A sum with a single term that is not zero.
pub sum-single : (q : Gf) (n k : ℕ) (f : ℕ → ℕ) → k < n → ((i : ℕ) → i < n → i ≢ k → f i ≡ zero) → sum_to q n f ≡ f k % order q
unfolding sum_to
sum-single q zero k f h z = absurd (not-suc-le-zero h)
sum-single q (suc n) k f h z = elim (cases_eq k n) [
  | inl last ↦ ap₂ (add q) (sum-zeros q n f (λ i b. z i (omega arith) (omega arith))) (ap f (sym last)) ∙ zero_add-mod q (f k)
  | inr other ↦
      ap₂ (add q) (sum-single q n k f (omega arith) (λ i b d. z i (omega arith) d)) (z n (omega arith) (λ e. other (sym e)))
      ∙ add_comm q (f k % order q) zero ∙ add-mod_right q zero (f k) ∙ zero_add-mod q (f k)
]
