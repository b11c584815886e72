-- Matrices made of blocks: the laws of `stack` and `beside`, and of parts of a matrix.
use Rattle.std.proofs.Common.{ℕ, ◌+◌, ◌-◌, ◌<◌, ◌≤◌, ◌≡◌, ◌≢◌, ◌⊎◌, refl, sym, ap, ap₂, ◌∙◌, arith, inl, inr, ltb, lt-ltb, le-ltb}
use Rattle.std.proofs.lemmas.Bool.{cases_lt, cases_eq, cond-true, cond-false}
use Rattle.linear_algebra.specs.Field.{Gf, add, mul}
use Rattle.linear_algebra.specs.Sums.{sum_to, sum-same, sum-ext, sum-split}
use Rattle.linear_algebra.specs.Matrix.{Mat, Mat-eq, Mat-eq_below, zeros, delta, delta-same, delta-other, one, ◌⊞◌, negative, ◌⊙◌, ◌·◌, transpose, join, stack, beside}
use Rattle.linear_algebra.specs.MatrixLaws.{one-at}

-- A place of a joined function lies in the first part or in the second.
pub record IsFirst (m i : ℕ) : Type 0 where
  pub lt : i < m
  pub is : (f g : ℕ → ℕ) → join m f g i ≡ f i

pub record IsSecond (m i : ℕ) : Type 0 where
  pub ge : m ≤ i
  pub is : (f g : ℕ → ℕ) → join m f g i ≡ g (i - m)

pub join_cases : (m i : ℕ) → IsFirst m i ⊎ IsSecond m i
unfolding join
join_cases m i = elim (cases_lt i m) [
  | inl h ↦ inl (record { lt = h; is = λ f g. cond-true (ltb i m) (f i) (g (i - m)) (lt-ltb i m h) })
  | inr h ↦ inr (record { ge = h; is = λ f g. cond-false (ltb i m) (f i) (g (i - m)) (le-ltb i m h) })
]

pub join-first : (m : ℕ) (f g : ℕ → ℕ) (i : ℕ) → i < m → join m f g i ≡ f i
unfolding join
join-first m f g i h = cond-true (ltb i m) (f i) (g (i - m)) (lt-ltb i m h)

pub join-second : (m : ℕ) (f g : ℕ → ℕ) (i : ℕ) → m ≤ i → join m f g i ≡ g (i - m)
unfolding join
join-second m f g i h = cond-false (ltb i m) (f i) (g (i - m)) (le-ltb i m h)

pub join-shifted : (m : ℕ) (f g : ℕ → ℕ) (i : ℕ) → join m f g (m + i) ≡ g i
join-shifted m f g i = join-second m f g (m + i) (omega arith) ∙ ap g (omega arith)

-- Three parts, joined in either order.
pub join_assoc : (m k : ℕ) (f g h : ℕ → ℕ) (i : ℕ) → join (m + k) (join m f g) h i ≡ join m f (join k g h) i
join_assoc m k f g h i = elim (cases_lt i m) [
  | inl x ↦ join-first (m + k) (join m f g) h i (omega arith) ∙ join-first m f g i x ∙ sym (join-first m f (join k g h) i x)
  | inr x ↦ elim (cases_lt i (m + k)) [
    | inl y ↦ join-first (m + k) (join m f g) h i y ∙ join-second m f g i x ∙ sym (join-first k g h (i - m) (omega arith)) ∙ sym (join-second m f (join k g h) i x)
    | inr y ↦ join-second (m + k) (join m f g) h i y ∙ ap h (omega arith) ∙ sym (join-second k g h (i - m) (omega arith)) ∙ sym (join-second m f (join k g h) i x)
  ]
]

-- a function of the values goes into a joined function
pub join_map : (m : ℕ) (f g : ℕ → ℕ) (p : ℕ → ℕ) (i : ℕ) → p (join m f g i) ≡ join m (λ t. p (f t)) (λ t. p (g t)) i
join_map m f g p i = elim (join_cases m i) [ inl e ↦ ap p (e.is f g) ∙ sym (e.is (λ t. p (f t)) (λ t. p (g t))) | inr e ↦ ap p (e.is f g) ∙ sym (e.is (λ t. p (f t)) (λ t. p (g t))) ]

-- a sum over a joined function
pub sum-join : (q : Gf) (m n : ℕ) (f g : ℕ → ℕ) → sum_to q (m + n) (join m f g) ≡ add q (sum_to q m f) (sum_to q n g)
sum-join q m n f g =
    sum-split q m n (join m f g)
    ∙ ap₂ (add q) (sum-same q m (join m f g) f (λ i h. join-first m f g i h)) (sum-ext q n (λ i. join m f g (m + i)) g (join-shifted m f g))

module _ {q : Gf} {m k n : ℕ} where
  pub stack_mul : {l : ℕ} (a : Mat q m n) (b : Mat q k n) (c : Mat q n l) → stack a b · c ≡ stack (a · c) (b · c)
  unfolding ◌·◌ stack
  stack_mul a b c = Mat-eq _ _ (λ i j. elim (join_cases m i) [
    | inl e ↦ sum-ext q n _ _ (λ t. ap (λ x. mul q x (c.at t j)) (e.is (λ s. a.at s t) (λ s. b.at s t))) ∙ sym (e.is (λ s. (a · c).at s j) (λ s. (b · c).at s j))
    | inr e ↦ sum-ext q n _ _ (λ t. ap (λ x. mul q x (c.at t j)) (e.is (λ s. a.at s t) (λ s. b.at s t))) ∙ sym (e.is (λ s. (a · c).at s j) (λ s. (b · c).at s j))
  ])

  pub stack_add : (a c : Mat q m n) (b d : Mat q k n) → stack a b ⊞ stack c d ≡ stack (a ⊞ c) (b ⊞ d)
  unfolding ◌⊞◌ stack
  stack_add a c b d = Mat-eq _ _ (λ i j. elim (join_cases m i) [ inl e ↦ simp e.is | inr e ↦ simp e.is ])

  pub stack_negative : (a : Mat q m n) (b : Mat q k n) → negative (stack a b) ≡ stack (negative a) (negative b)
  unfolding negative stack
  stack_negative a b = Mat-eq _ _ (λ i j. elim (join_cases m i) [ inl e ↦ simp e.is | inr e ↦ simp e.is ])

  pub stack_scale : (c : ℕ) (a : Mat q m n) (b : Mat q k n) → c ⊙ stack a b ≡ stack (c ⊙ a) (c ⊙ b)
  unfolding ◌⊙◌ stack
  stack_scale c a b = Mat-eq _ _ (λ i j. elim (join_cases m i) [ inl e ↦ simp e.is | inr e ↦ simp e.is ])

  pub transpose_stack : (a : Mat q m n) (b : Mat q k n) → transpose (stack a b) ≡ beside (transpose a) (transpose b)
  unfolding transpose stack beside
  transpose_stack a b = Mat-eq _ _ (λ i j. refl)

module _ {q : Gf} {m k n : ℕ} where
  pub mul_beside : {l : ℕ} (c : Mat q l m) (a : Mat q m k) (b : Mat q m n) → c · beside a b ≡ beside (c · a) (c · b)
  unfolding ◌·◌ beside
  mul_beside {l} c a b = Mat-eq _ _ (λ i j. elim (join_cases k j) [
    | inl e ↦ sum-ext q m _ _ (λ t. ap (mul q (c.at i t)) (e.is (a.at t) (b.at t))) ∙ sym (e.is ((c · a).at i) ((c · b).at i))
    | inr e ↦ sum-ext q m _ _ (λ t. ap (mul q (c.at i t)) (e.is (a.at t) (b.at t))) ∙ sym (e.is ((c · a).at i) ((c · b).at i))
  ])

  pub beside_add : (a c : Mat q m k) (b d : Mat q m n) → beside a b ⊞ beside c d ≡ beside (a ⊞ c) (b ⊞ d)
  unfolding ◌⊞◌ beside
  beside_add a c b d = Mat-eq _ _ (λ i j. elim (join_cases k j) [ inl e ↦ simp e.is | inr e ↦ simp e.is ])

  pub beside_negative : (a : Mat q m k) (b : Mat q m n) → negative (beside a b) ≡ beside (negative a) (negative b)
  unfolding negative beside
  beside_negative a b = Mat-eq _ _ (λ i j. elim (join_cases k j) [ inl e ↦ simp e.is | inr e ↦ simp e.is ])

  pub beside_scale : (c : ℕ) (a : Mat q m k) (b : Mat q m n) → c ⊙ beside a b ≡ beside (c ⊙ a) (c ⊙ b)
  unfolding ◌⊙◌ beside
  beside_scale c a b = Mat-eq _ _ (λ i j. elim (join_cases k j) [ inl e ↦ simp e.is | inr e ↦ simp e.is ])

  pub transpose_beside : (a : Mat q m k) (b : Mat q m n) → transpose (beside a b) ≡ stack (transpose a) (transpose b)
  unfolding transpose stack beside
  transpose_beside a b = Mat-eq _ _ (λ i j. refl)

  -- a row of blocks times a column of blocks
  pub beside_stack : {l : ℕ} (a : Mat q m k) (b : Mat q m n) (c : Mat q k l) (d : Mat q n l) → beside a b · stack c d ≡ a · c ⊞ b · d
  unfolding ◌·◌ ◌⊞◌ beside stack
  beside_stack a b c d = Mat-eq _ _ (λ i j.
      sum-split q k n _ ∙ ap₂ (add q)
      (sum-same q k _ _ (λ t h. ap₂ (mul q) (join-first k (a.at i) (b.at i) t h) (join-first k (λ s. c.at s j) (λ s. d.at s j) t h)))
      (sum-ext q n _ _ (λ t. ap₂ (mul q) (join-shifted k (a.at i) (b.at i) t) (join-shifted k (λ s. c.at s j) (λ s. d.at s j) t))))

pub stack_zeros : (q : Gf) (m k n : ℕ) → stack (zeros q m n) (zeros q k n) ≡ zeros q (m + k) n
unfolding zeros stack
stack_zeros q m k n = Mat-eq _ _ (λ i j. elim (join_cases m i) [ inl e ↦ simp e.is | inr e ↦ simp e.is ])

pub beside_zeros : (q : Gf) (m k n : ℕ) → beside (zeros q m k) (zeros q m n) ≡ zeros q m (k + n)
unfolding zeros beside
beside_zeros q m k n = Mat-eq _ _ (λ i j. elim (join_cases k j) [ inl e ↦ simp e.is | inr e ↦ simp e.is ])

-- four blocks, by rows or by columns
pub stack_of_besides : {q : Gf} {m k n l : ℕ} (a : Mat q m n) (b : Mat q m l) (c : Mat q k n) (d : Mat q k l) → stack (beside a b) (beside c d) ≡ beside (stack a c) (stack b d)
unfolding stack beside
stack_of_besides {q} {m} {k} {n} {l} a b c d = Mat-eq _ _ (λ i j. elim (join_cases m i) [
  | inl e ↦ elim (join_cases n j) [ inl f ↦ simp (e.is, f.is) | inr f ↦ simp (e.is, f.is) ]
  | inr e ↦ elim (join_cases n j) [ inl f ↦ simp (e.is, f.is) | inr f ↦ simp (e.is, f.is) ]
])

-- the unit matrix in four blocks
pub one_blocks : (q : Gf) (m n : ℕ) → stack (beside (one q m) (zeros q m n)) (beside (zeros q n m) (one q n)) ≡ one q (m + n)
unfolding stack beside zeros
one_blocks q m n = Mat-eq_below _ _ (λ i j h k. elim (join_cases m i) [
  | inl e ↦ elim (join_cases m j) [
    | inl f ↦ e.is _ _ ∙ f.is _ _ ∙ one-at q m i j e.lt ∙ sym (one-at q (m + n) i j h)
    | inr f ↦ let d : i ≢ j = omega (arith, e.lt, f.ge) in e.is _ _ ∙ f.is _ _ ∙ sym (delta-other i j d) ∙ sym (one-at q (m + n) i j h)
  ]
  | inr e ↦ elim (join_cases m j) [
    | inl f ↦ let d : i ≢ j = omega (arith, e.ge, f.lt) in e.is _ _ ∙ f.is _ _ ∙ sym (delta-other i j d) ∙ sym (one-at q (m + n) i j h)
    | inr f ↦ e.is _ _ ∙ f.is _ _ ∙ one-at q n (i - m) (j - m) (omega (arith, e.ge)) ∙ shift m i j e.ge f.ge ∙ sym (one-at q (m + n) i j h)
  ]
])
  where
    shift : (m i j : ℕ) → m ≤ i → m ≤ j → delta (i - m) (j - m) ≡ delta i j
    shift m i j h k = elim (cases_eq i j) [
      | inl e ↦ ap (delta (i - m)) (omega arith) ∙ delta-same (i - m) ∙ sym (delta-same i) ∙ ap (delta i) e
      | inr d ↦ delta-other (i - m) (j - m) (λ e. d (omega arith)) ∙ sym (delta-other i j d)
    ]

-- Matrices without rows or without columns.
pub no_rows : {q : Gf} {n : ℕ} (a b : Mat q 0 n) → a ≡ b
no_rows a b = Mat-eq_below a b (λ i j h k. absurd (omega arith))

pub no_columns : {q : Gf} {m : ℕ} (a b : Mat q m 0) → a ≡ b
no_columns a b = Mat-eq_below a b (λ i j h k. absurd (omega arith))

pub no_rows_zeros : {q : Gf} {m n : ℕ} → m ≡ 0 → (a : Mat q m n) → a ≡ zeros q m n
no_rows_zeros {q} {m} {n} e a = Mat-eq_below a (zeros q m n) (λ i j h k. absurd (omega arith))
