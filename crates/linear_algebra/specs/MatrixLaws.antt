-- The laws of sums, multiples, products and transposes of matrices. Each is proved by entries, and cited without them.
use Rattle.std.proofs.Common.{ℕ, zero, ◌%◌, ◌<◌, ◌≡◌, refl, sym, ap, ap₂, ◌∙◌, inl, inr, ltb, lt-ltb, mod-eq_of_lt}
use Rattle.std.proofs.lemmas.Bool.{cases_eq, cond-true}
use Rattle.linear_algebra.specs.Field.{Gf, order, add, sub, mul, neg}
use Rattle.linear_algebra.specs.FieldLaws.{mul-mod_left, sub_def, add_swap, add_assoc, add_comm, add_left_comm, add_zero, zero_add, add_neg, neg-add, neg_neg, neg_zero, mul_assoc, mul_comm, mul_left_comm, mul_one, one_mul, mul_zero, zero_mul, mul_add, add_mul, mul_neg, neg_mul, mod-mul}
use Rattle.linear_algebra.specs.Sums.{sum_to, sum-ext, sum-zeros, sum-add, mul-sum, sum-mul, neg-sum, sum-swap, sum-single}
use Rattle.linear_algebra.specs.Matrix.{Mat, Mat-eq, Mat-eq_below, zeros, delta, delta-same, delta-other, one, ◌⊞◌, negative, ◌⊟◌, ◌⊙◌, ◌·◌, transpose}

module _ {q : Gf} {m n : ℕ} where
  pub add_comm_mat : (a b : Mat q m n) → a ⊞ b ≡ b ⊞ a
  unfolding ◌⊞◌
  add_comm_mat a b = Mat-eq _ _ (λ i j. add_comm q (a.at i j) (b.at i j))

  pub add_assoc_mat : (a b c : Mat q m n) → (a ⊞ b) ⊞ c ≡ a ⊞ (b ⊞ c)
  unfolding ◌⊞◌
  add_assoc_mat a b c = Mat-eq _ _ (λ i j. add_assoc q (a.at i j) (b.at i j) (c.at i j))

  pub add_left_comm_mat : (a b c : Mat q m n) → a ⊞ (b ⊞ c) ≡ b ⊞ (a ⊞ c)
  unfolding ◌⊞◌
  add_left_comm_mat a b c = Mat-eq _ _ (λ i j. add_left_comm q (a.at i j) (b.at i j) (c.at i j))

  pub add_swap_mat : (a b c d : Mat q m n) → (a ⊞ b) ⊞ (c ⊞ d) ≡ (a ⊞ c) ⊞ (b ⊞ d)
  unfolding ◌⊞◌
  add_swap_mat a b c d = Mat-eq _ _ (λ i j. add_swap q (a.at i j) (b.at i j) (c.at i j) (d.at i j))

  pub add_zeros : (a : Mat q m n) → a ⊞ zeros q m n ≡ a
  unfolding ◌⊞◌ zeros
  add_zeros a = Mat-eq _ _ (λ i j. add_zero q (a.at i j) (a.fits.small i j))

  pub zeros_add : (a : Mat q m n) → zeros q m n ⊞ a ≡ a
  unfolding ◌⊞◌ zeros
  zeros_add a = Mat-eq _ _ (λ i j. zero_add q (a.at i j) (a.fits.small i j))

  pub add_negative : (a : Mat q m n) → a ⊞ negative a ≡ zeros q m n
  unfolding ◌⊞◌ zeros negative
  add_negative a = Mat-eq _ _ (λ i j. add_neg q (a.at i j))

  pub negative_add : (a : Mat q m n) → negative a ⊞ a ≡ zeros q m n
  negative_add a = add_comm_mat (negative a) a ∙ add_negative a

  pub difference : (a b : Mat q m n) → a ⊟ b ≡ a ⊞ negative b
  unfolding ◌⊟◌
  difference a b = refl

  pub sub-at : (a b : Mat q m n) (i j : ℕ) → (a ⊟ b).at i j ≡ sub q (a.at i j) (b.at i j)
  unfolding ◌⊟◌ ◌⊞◌ negative
  sub-at a b i j = sym (sub_def q (a.at i j) (b.at i j))

  pub negative_sum : (a b : Mat q m n) → negative (a ⊞ b) ≡ negative a ⊞ negative b
  unfolding ◌⊞◌ negative
  negative_sum a b = Mat-eq _ _ (λ i j. neg-add q (a.at i j) (b.at i j))

  pub negative_negative : (a : Mat q m n) → negative (negative a) ≡ a
  unfolding negative
  negative_negative a = Mat-eq _ _ (λ i j. neg_neg q (a.at i j) ∙ mod-eq_of_lt (a.fits.small i j))

  pub negative_zeros : negative (zeros q m n) ≡ zeros q m n
  unfolding negative zeros
  negative_zeros = Mat-eq _ _ (λ i j. neg_zero q)

  pub sub_self_mat : (a : Mat q m n) → a ⊟ a ≡ zeros q m n
  sub_self_mat a = difference a a ∙ add_negative a

  pub add_cancel_mat : (a b c : Mat q m n) → a ⊞ b ≡ a ⊞ c → b ≡ c
  add_cancel_mat a b c e =
      let drop : (x : Mat q m n) → negative a ⊞ (a ⊞ x) ≡ x = λ x. sym (add_assoc_mat (negative a) a x) ∙ ap (λ z. z ⊞ x) (negative_add a) ∙ zeros_add x in
      sym (drop b) ∙ ap (λ z. negative a ⊞ z) e ∙ drop c

  pub sub_eq_zeros : (a b : Mat q m n) → a ⊟ b ≡ zeros q m n → a ≡ b
  sub_eq_zeros a b e =
      add_cancel_mat (negative b) a b (add_comm_mat (negative b) a ∙ sym (difference a b) ∙ e ∙ sym (negative_add b))

  -- a − b + b and a + b − b
  pub sub_add_mat : (a b : Mat q m n) → (a ⊟ b) ⊞ b ≡ a
  sub_add_mat a b = ap (λ z. z ⊞ b) (difference a b) ∙ add_assoc_mat a (negative b) b ∙ ap (λ z. a ⊞ z) (negative_add b) ∙ add_zeros a

  pub add_sub_mat : (a b : Mat q m n) → (a ⊞ b) ⊟ b ≡ a
  add_sub_mat a b = difference (a ⊞ b) b ∙ add_assoc_mat a b (negative b) ∙ ap (λ z. a ⊞ z) (add_negative b) ∙ add_zeros a

  pub sub_zeros : (a : Mat q m n) → a ⊟ zeros q m n ≡ a
  sub_zeros a = difference a (zeros q m n) ∙ ap (λ z. a ⊞ z) negative_zeros ∙ add_zeros a

  -- Multiples.
  pub scale_add : (c : ℕ) (a b : Mat q m n) → c ⊙ (a ⊞ b) ≡ c ⊙ a ⊞ c ⊙ b
  unfolding ◌⊞◌ ◌⊙◌
  scale_add c a b = Mat-eq _ _ (λ i j. mul_add q c (a.at i j) (b.at i j))

  pub add_scale : (c d : ℕ) (a : Mat q m n) → add q c d ⊙ a ≡ c ⊙ a ⊞ d ⊙ a
  unfolding ◌⊞◌ ◌⊙◌
  add_scale c d a = Mat-eq _ _ (λ i j. add_mul q c d (a.at i j))

  pub scale_scale : (c d : ℕ) (a : Mat q m n) → c ⊙ (d ⊙ a) ≡ mul q c d ⊙ a
  unfolding ◌⊙◌
  scale_scale c d a = Mat-eq _ _ (λ i j. sym (mul_assoc q c d (a.at i j)))

  pub scale-mod : (c : ℕ) (a : Mat q m n) → (c % order q) ⊙ a ≡ c ⊙ a
  unfolding ◌⊙◌
  scale-mod c a = Mat-eq _ _ (λ i j. mul-mod_left q c (a.at i j))

  pub one_scale : (a : Mat q m n) → 1 ⊙ a ≡ a
  unfolding ◌⊙◌
  one_scale a = Mat-eq _ _ (λ i j. one_mul q (a.at i j) (a.fits.small i j))

  pub zero_scale : (a : Mat q m n) → 0 ⊙ a ≡ zeros q m n
  unfolding ◌⊙◌ zeros
  zero_scale a = Mat-eq _ _ (λ i j. zero_mul q (a.at i j))

  pub scale_zeros : (c : ℕ) → c ⊙ zeros q m n ≡ zeros q m n
  unfolding ◌⊙◌ zeros
  scale_zeros c = Mat-eq _ _ (λ i j. mul_zero q c)

  pub scale_negative : (c : ℕ) (a : Mat q m n) → c ⊙ negative a ≡ negative (c ⊙ a)
  unfolding ◌⊙◌ negative
  scale_negative c a = Mat-eq _ _ (λ i j. mul_neg q c (a.at i j))

  pub neg_scale : (c : ℕ) (a : Mat q m n) → neg q c ⊙ a ≡ negative (c ⊙ a)
  unfolding ◌⊙◌ negative
  neg_scale c a = Mat-eq _ _ (λ i j. neg_mul q c (a.at i j))

  pub negative_scale : (a : Mat q m n) → negative a ≡ neg q 1 ⊙ a
  negative_scale a = ap negative (sym (one_scale a)) ∙ sym (neg_scale 1 a)

  -- One factor a unit matrix or zero.
  pub mul_one_mat : (a : Mat q m n) → a · one q n ≡ a
  unfolding ◌·◌ one
  mul_one_mat a = Mat-eq_below _ _ (λ i j h k.
      sum-single q n j (λ t. mul q (a.at i t) ((one q n).at t j)) k
      (λ t l d. ap (mul q (a.at i t)) (cond-true (ltb t n) (delta t j) zero (lt-ltb t n l) ∙ delta-other t j d) ∙ mul_zero q (a.at i t))
      ∙ mod-mul q (a.at i j) ((one q n).at j j)
      ∙ ap (mul q (a.at i j)) (cond-true (ltb j n) (delta j j) zero (lt-ltb j n k) ∙ delta-same j)
      ∙ mul_one q (a.at i j) (a.fits.small i j))

  pub one_mul_mat : (a : Mat q m n) → one q m · a ≡ a
  unfolding ◌·◌ one
  one_mul_mat a = Mat-eq_below _ _ (λ i j h k.
      sum-single q m i (λ t. mul q ((one q m).at i t) (a.at t j)) h
      (λ t l d. ap (λ x. mul q x (a.at t j)) (cond-true (ltb i m) (delta i t) zero (lt-ltb i m h) ∙ delta-other i t (λ e. d (sym e))) ∙ zero_mul q (a.at t j))
      ∙ mod-mul q ((one q m).at i i) (a.at i j)
      ∙ ap (λ x. mul q x (a.at i j)) (cond-true (ltb i m) (delta i i) zero (lt-ltb i m h) ∙ delta-same i)
      ∙ one_mul q (a.at i j) (a.fits.small i j))

  pub transpose_transpose : (a : Mat q m n) → transpose (transpose a) ≡ a
  unfolding transpose
  transpose_transpose a = Mat-eq _ _ (λ i j. refl)

  pub transpose_sum : (a b : Mat q m n) → transpose (a ⊞ b) ≡ transpose a ⊞ transpose b
  unfolding transpose ◌⊞◌
  transpose_sum a b = Mat-eq _ _ (λ i j. refl)

  pub transpose_negative : (a : Mat q m n) → transpose (negative a) ≡ negative (transpose a)
  unfolding transpose negative
  transpose_negative a = Mat-eq _ _ (λ i j. refl)

  pub transpose_scale : (c : ℕ) (a : Mat q m n) → transpose (c ⊙ a) ≡ c ⊙ transpose a
  unfolding transpose ◌⊙◌
  transpose_scale c a = Mat-eq _ _ (λ i j. refl)

pub transpose-at : {q : Gf} {m n : ℕ} (a : Mat q m n) (i j : ℕ) → (transpose a).at i j ≡ a.at j i
unfolding transpose
transpose-at a i j = refl

pub transpose_zeros : (q : Gf) (m n : ℕ) → transpose (zeros q m n) ≡ zeros q n m
unfolding transpose zeros
transpose_zeros q m n = Mat-eq _ _ (λ i j. refl)

pub one-at : (q : Gf) (n i j : ℕ) → i < n → (one q n).at i j ≡ delta i j
unfolding one
one-at q n i j h = cond-true (ltb i n) (delta i j) zero (lt-ltb i n h)

pub delta_comm : (i j : ℕ) → delta i j ≡ delta j i
delta_comm i j = elim (cases_eq i j) [
  | inl e ↦ ap₂ delta e (sym e)
  | inr d ↦ delta-other i j d ∙ sym (delta-other j i (λ e. d (sym e)))
]

pub transpose_one : (q : Gf) (n : ℕ) → transpose (one q n) ≡ one q n
unfolding transpose
transpose_one q n = Mat-eq_below _ _ (λ i j h k. one-at q n j i k ∙ delta_comm j i ∙ sym (one-at q n i j h))

module _ {q : Gf} {m k n : ℕ} where
  pub mul_zeros : (a : Mat q m k) → a · zeros q k n ≡ zeros q m n
  unfolding ◌·◌ zeros
  mul_zeros a = Mat-eq _ _ (λ i j. sum-zeros q k (λ t. mul q (a.at i t) zero) (λ t l. mul_zero q (a.at i t)))

  pub zeros_mul : (b : Mat q k n) → zeros q m k · b ≡ zeros q m n
  unfolding ◌·◌ zeros
  zeros_mul b = Mat-eq _ _ (λ i j. sum-zeros q k (λ t. mul q zero (b.at t j)) (λ t l. zero_mul q (b.at t j)))

  pub mul_add_mat : (a : Mat q m k) (b c : Mat q k n) → a · (b ⊞ c) ≡ a · b ⊞ a · c
  unfolding ◌·◌ ◌⊞◌
  mul_add_mat a b c = Mat-eq _ _ (λ i j.
      sum-ext q k _ _ (λ t. mul_add q (a.at i t) (b.at t j) (c.at t j)) ∙ sum-add q k (λ t. mul q (a.at i t) (b.at t j)) (λ t. mul q (a.at i t) (c.at t j)))

  pub add_mul_mat : (a b : Mat q m k) (c : Mat q k n) → (a ⊞ b) · c ≡ a · c ⊞ b · c
  unfolding ◌·◌ ◌⊞◌
  add_mul_mat a b c = Mat-eq _ _ (λ i j.
      sum-ext q k _ _ (λ t. add_mul q (a.at i t) (b.at i t) (c.at t j)) ∙ sum-add q k (λ t. mul q (a.at i t) (c.at t j)) (λ t. mul q (b.at i t) (c.at t j)))

  pub mul_negative : (a : Mat q m k) (b : Mat q k n) → a · negative b ≡ negative (a · b)
  unfolding ◌·◌ negative
  mul_negative a b = Mat-eq _ _ (λ i j.
      sum-ext q k _ _ (λ t. mul_neg q (a.at i t) (b.at t j)) ∙ sym (neg-sum q k (λ t. mul q (a.at i t) (b.at t j))))

  pub negative_mul : (a : Mat q m k) (b : Mat q k n) → negative a · b ≡ negative (a · b)
  unfolding ◌·◌ negative
  negative_mul a b = Mat-eq _ _ (λ i j.
      sum-ext q k _ _ (λ t. neg_mul q (a.at i t) (b.at t j)) ∙ sym (neg-sum q k (λ t. mul q (a.at i t) (b.at t j))))

  pub mul_scale : (c : ℕ) (a : Mat q m k) (b : Mat q k n) → a · (c ⊙ b) ≡ c ⊙ (a · b)
  unfolding ◌·◌ ◌⊙◌
  mul_scale c a b = Mat-eq _ _ (λ i j.
      sum-ext q k _ _ (λ t. mul_left_comm q (a.at i t) c (b.at t j)) ∙ sym (mul-sum q k c (λ t. mul q (a.at i t) (b.at t j))))

  pub scale_mul : (c : ℕ) (a : Mat q m k) (b : Mat q k n) → (c ⊙ a) · b ≡ c ⊙ (a · b)
  unfolding ◌·◌ ◌⊙◌
  scale_mul c a b = Mat-eq _ _ (λ i j.
      sum-ext q k _ _ (λ t. mul_assoc q c (a.at i t) (b.at t j)) ∙ sym (mul-sum q k c (λ t. mul q (a.at i t) (b.at t j))))

  pub mul_sub_mat : (a : Mat q m k) (b c : Mat q k n) → a · (b ⊟ c) ≡ a · b ⊟ a · c
  mul_sub_mat a b c = ap (λ z. a · z) (difference b c) ∙ mul_add_mat a b (negative c) ∙ ap (λ z. a · b ⊞ z) (mul_negative a c) ∙ sym (difference (a · b) (a · c))

  pub sub_mul_mat : (a b : Mat q m k) (c : Mat q k n) → (a ⊟ b) · c ≡ a · c ⊟ b · c
  sub_mul_mat a b c = ap (λ z. z · c) (difference a b) ∙ add_mul_mat a (negative b) c ∙ ap (λ z. a · c ⊞ z) (negative_mul b c) ∙ sym (difference (a · c) (b · c))

  pub transpose_mul : (a : Mat q m k) (b : Mat q k n) → transpose (a · b) ≡ transpose b · transpose a
  unfolding ◌·◌ transpose
  transpose_mul a b = Mat-eq _ _ (λ i j. sum-ext q k _ _ (λ t. mul_comm q (a.at j t) (b.at t i)))

pub mul_assoc_mat : {q : Gf} {m k l n : ℕ} (a : Mat q m k) (b : Mat q k l) (c : Mat q l n) → (a · b) · c ≡ a · (b · c)
unfolding ◌·◌
mul_assoc_mat {q} {m} {k} {l} {n} a b c = Mat-eq _ _ (λ i j.
    sum-ext q l _ (λ s. sum_to q k (λ t. mul q (a.at i t) (mul q (b.at t s) (c.at s j))))
    (λ s. sum-mul q k (c.at s j) (λ t. mul q (a.at i t) (b.at t s)) ∙ sum-ext q k _ _ (λ t. mul_assoc q (a.at i t) (b.at t s) (c.at s j)))
    ∙ sum-swap q l k (λ s t. mul q (a.at i t) (mul q (b.at t s) (c.at s j)))
    ∙ sum-ext q k _ _ (λ t. sym (mul-sum q l (a.at i t) (λ s. mul q (b.at t s) (c.at s j)))))
