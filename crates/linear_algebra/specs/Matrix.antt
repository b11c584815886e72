-- Matrices over a field of the table. A matrix of m rows and n columns is a function of two places, counted from 0, whose
-- values are elements of the field, and are 0 at the places past the last row or the last column. So two matrices of the same size
-- are equal as soon as their entries are. A matrix without rows still has its number of columns in its type, and one without columns
-- its number of rows. Rows of length n are matrices of one row; they are multiplied by matrices from the right.
use Rattle.std.specs.Prelude.{ℕ, zero, ◌+◌, ◌-◌, ◌%◌, ◌<◌, ◌≤◌, ◌≡◌, ◌≢◌, cond, eqb, ltb, refl}
use Rattle.std.proofs.Common.{inl, inr, ◌∙◌, arith, sym, ap, ap₂, ltb-true, ltb-false, le-ltb, eq-eqb, ne_eqb, mod-lt}
use Rattle.std.proofs.lemmas.Bool.{cases_lt, cond-true, cond-false, cond_both}
use mathlib.Core.HLevel.{is_prop→PathP}
use native.Mathlib.Bridge.{le_prop}
use native.Mathlib.Nat.{ℕ_set}
use Rattle.linear_algebra.specs.Field.{Gf, order, add, mul, neg}
use Rattle.linear_algebra.specs.FieldLaws.{order-pos, one-lt-order, add_below, mul_below, neg_below, add_zero_zero, mul_zero, zero_mul, neg_zero}
use Rattle.linear_algebra.specs.Sums.{sum_to, sum_below, sum-zeros}

infixl 70 ◌·◌
infixr 75 ◌⊙◌
infixl 65 ◌⊞◌
infixl 65 ◌⊟◌
-- f has entries in the field, and zeros past m rows and past n columns.
pub record IsAt (q : Gf) (m n : ℕ) (f : ℕ → ℕ → ℕ) : Type 0 where
  pub small : (i j : ℕ) → f i j < order q
  pub below : (i j : ℕ) → m ≤ i → f i j ≡ zero
  pub right : (i j : ℕ) → n ≤ j → f i j ≡ zero

-- A matrix of m rows and n columns.
pub record Mat (q : Gf) (m n : ℕ) : Type 0 where
  pub at : ℕ → ℕ → ℕ
  pub fits : IsAt q m n at

-- A row of length n, and a column of length m.
abbrev pub Row : Gf → ℕ → Type 0
Row q n = Mat q 1 n

abbrev pub Column : Gf → ℕ → Type 0
Column q m = Mat q m 1

pub IsAt-prop : (q : Gf) (m n : ℕ) (f : ℕ → ℕ → ℕ) → IsProp (IsAt q m n f)
IsAt-prop q m n f = hlevel (le_prop, ℕ_set)

-- Matrices with the same entries are equal.
pub Mat-eq : {q : Gf} {m n : ℕ} (a b : Mat q m n) → ((i j : ℕ) → a.at i j ≡ b.at i j) → a ≡ b
Mat-eq {q} {m} {n} a b h = λ k. record {
  at = λ i j. h i j k;
  fits = is_prop→PathP (λ k. IsAt q m n (λ i j. h i j k)) (λ k. IsAt-prop q m n (λ i j. h i j k)) a.fits b.fits k;
}

-- It is enough to compare the entries at the places of the shape.
pub Mat-eq_below : {q : Gf} {m n : ℕ} (a b : Mat q m n) → ((i j : ℕ) → i < m → j < n → a.at i j ≡ b.at i j) → a ≡ b
Mat-eq_below {q} {m} {n} a b h = Mat-eq a b (λ i j. elim (cases_lt i m) [
  | inl x ↦ elim (cases_lt j n) [ inl y ↦ h i j x y | inr y ↦ a.fits.right i j y ∙ sym (b.fits.right i j y) ]
  | inr x ↦ a.fits.below i j x ∙ sym (b.fits.below i j x)
])

-- The matrix with the entries f, taken as elements of the field, at the places of the shape.
unfoldable pub made : (q : Gf) (m n : ℕ) → (ℕ → ℕ → ℕ) → Mat q m n
made q m n f = record {
  at = clipped;
  fits = record {
    small = λ i j. cond_both (ltb i m) (cond (ltb j n) (f i j % order q) zero) zero (λ x. x < order q)
        (λ e. cond_both (ltb j n) (f i j % order q) zero (λ x. x < order q) (λ e. mod-lt (f i j) (order-pos q)) (λ e. order-pos q))
        (λ e. order-pos q);
    below = λ i j h. cond-false (ltb i m) (cond (ltb j n) (f i j % order q) zero) zero (le-ltb i m h);
    right = λ i j h. cond_both (ltb i m) (cond (ltb j n) (f i j % order q) zero) zero (λ x. x ≡ zero)
        (λ e. cond-false (ltb j n) (f i j % order q) zero (le-ltb j n h))
        (λ e. refl);
  };
}
  where
    clipped : ℕ → ℕ → ℕ
    clipped i j = cond (ltb i m) (cond (ltb j n) (f i j % order q) zero) zero

-- The same matrix, at equal numbers of rows and columns.
unfoldable pub reshape : {q : Gf} {m n k l : ℕ} → m ≡ k → n ≡ l → Mat q m n → Mat q k l
reshape {q} {m} {n} {k} {l} e d a = record {
  at = a.at;
  fits = record { small = a.fits.small; below = λ i j h. a.fits.below i j (omega arith); right = λ i j h. a.fits.right i j (omega arith) };
}

-- The zero matrix, and the unit matrix.
unfoldable pub zeros : (q : Gf) (m n : ℕ) → Mat q m n
zeros q m n = record {
  at = λ i j. zero;
  fits = record { small = λ i j. order-pos q; below = λ i j h. refl; right = λ i j h. refl };
}

-- 1 where the places are the same
unfoldable pub delta : ℕ → ℕ → ℕ
delta i j = cond (eqb i j) 1 zero

pub delta-same : (i : ℕ) → delta i i ≡ 1
unfolding delta
delta-same i = cond-true (eqb i i) 1 zero (eq-eqb i i refl)

pub delta-other : (i j : ℕ) → i ≢ j → delta i j ≡ zero
unfolding delta
delta-other i j n = cond-false (eqb i j) 1 zero (ne_eqb i j n)

pub delta_below : (q : Gf) (i j : ℕ) → delta i j < order q
unfolding delta
delta_below q i j = cond_both (eqb i j) 1 zero (λ x. x < order q) (λ e. one-lt-order q) (λ e. order-pos q)

unfoldable pub one : (q : Gf) (n : ℕ) → Mat q n n
one q n = record {
  at = λ i j. cond (ltb i n) (delta i j) zero;
  fits = record {
    small = λ i j. cond_both (ltb i n) (delta i j) zero (λ x. x < order q) (λ e. delta_below q i j) (λ e. order-pos q);
    below = λ i j h. cond-false (ltb i n) (delta i j) zero (le-ltb i n h);
    right = λ i j h. cond_both (ltb i n) (delta i j) zero (λ x. x ≡ zero) (λ e. delta-other i j (λ s. omega (arith, ltb-true i n e))) (λ e. refl);
  };
}

-- Sums, negatives, differences, and multiples by a scalar.
unfoldable pub ◌⊞◌ : {q : Gf} {m n : ℕ} → Mat q m n → Mat q m n → Mat q m n
◌⊞◌ {q} a b = record {
  at = λ i j. add q (a.at i j) (b.at i j);
  fits = record {
    small = λ i j. add_below q (a.at i j) (b.at i j);
    below = λ i j h. ap₂ (add q) (a.fits.below i j h) (b.fits.below i j h) ∙ add_zero_zero q;
    right = λ i j h. ap₂ (add q) (a.fits.right i j h) (b.fits.right i j h) ∙ add_zero_zero q;
  };
}

unfoldable pub negative : {q : Gf} {m n : ℕ} → Mat q m n → Mat q m n
negative {q} a = record {
  at = λ i j. neg q (a.at i j);
  fits = record {
    small = λ i j. neg_below q (a.at i j);
    below = λ i j h. ap (neg q) (a.fits.below i j h) ∙ neg_zero q;
    right = λ i j h. ap (neg q) (a.fits.right i j h) ∙ neg_zero q;
  };
}

unfoldable pub ◌⊟◌ : {q : Gf} {m n : ℕ} → Mat q m n → Mat q m n → Mat q m n
a ⊟ b = a ⊞ negative b

unfoldable pub ◌⊙◌ : {q : Gf} {m n : ℕ} → ℕ → Mat q m n → Mat q m n
◌⊙◌ {q} c a = record {
  at = λ i j. mul q c (a.at i j);
  fits = record {
    small = λ i j. mul_below q c (a.at i j);
    below = λ i j h. ap (mul q c) (a.fits.below i j h) ∙ mul_zero q c;
    right = λ i j h. ap (mul q c) (a.fits.right i j h) ∙ mul_zero q c;
  };
}

-- The product.
unfoldable pub ◌·◌ : {q : Gf} {m k n : ℕ} → Mat q m k → Mat q k n → Mat q m n
◌·◌ {q} {m} {k} {n} a b = record {
  at = λ i j. sum_to q k (λ t. mul q (a.at i t) (b.at t j));
  fits = record {
    small = λ i j. sum_below q k (λ t. mul q (a.at i t) (b.at t j));
    below = λ i j h. sum-zeros q k (λ t. mul q (a.at i t) (b.at t j)) (λ t l. ap (λ x. mul q x (b.at t j)) (a.fits.below i t h) ∙ zero_mul q (b.at t j));
    right = λ i j h. sum-zeros q k (λ t. mul q (a.at i t) (b.at t j)) (λ t l. ap (mul q (a.at i t)) (b.fits.right t j h) ∙ mul_zero q (a.at i t));
  };
}

-- Rows and columns exchanged.
unfoldable pub transpose : {q : Gf} {m n : ℕ} → Mat q m n → Mat q n m
transpose a = record {
  at = λ i j. a.at j i;
  fits = record { small = λ i j. a.fits.small j i; below = λ i j h. a.fits.right j i h; right = λ i j h. a.fits.below j i h };
}

-- the first m values of f, and then those of g
unfoldable pub join : ℕ → (ℕ → ℕ) → (ℕ → ℕ) → ℕ → ℕ
join m f g i = cond (ltb i m) (f i) (g (i - m))

pub join_both : (m : ℕ) (f g : ℕ → ℕ) (i : ℕ) (P : ℕ → Type 0) → (i < m → P (f i)) → (m ≤ i → P (g (i - m))) → P (join m f g i)
unfolding join
join_both m f g i P x y = cond_both (ltb i m) (f i) (g (i - m)) P (λ e. x (ltb-true i m e)) (λ e. y (ltb-false i m e))

-- a over b
unfoldable pub stack : {q : Gf} {m k n : ℕ} → Mat q m n → Mat q k n → Mat q (m + k) n
stack {q} {m} {k} {n} a b = record {
  at = λ i j. join m (λ t. a.at t j) (λ t. b.at t j) i;
  fits = record {
    small = λ i j. join_both m (λ t. a.at t j) (λ t. b.at t j) i (λ x. x < order q) (λ l. a.fits.small i j) (λ l. b.fits.small (i - m) j);
    below = λ i j h. join_both m (λ t. a.at t j) (λ t. b.at t j) i (λ x. x ≡ zero) (λ l. absurd (omega arith)) (λ l. b.fits.below (i - m) j (omega arith));
    right = λ i j h. join_both m (λ t. a.at t j) (λ t. b.at t j) i (λ x. x ≡ zero) (λ l. a.fits.right i j h) (λ l. b.fits.right (i - m) j h);
  };
}

-- a and b side by side
unfoldable pub beside : {q : Gf} {m k n : ℕ} → Mat q m k → Mat q m n → Mat q m (k + n)
beside {q} {m} {k} {n} a b = record {
  at = λ i j. join k (a.at i) (b.at i) j;
  fits = record {
    small = λ i j. join_both k (a.at i) (b.at i) j (λ x. x < order q) (λ l. a.fits.small i j) (λ l. b.fits.small i (j - k));
    below = λ i j h. join_both k (a.at i) (b.at i) j (λ x. x ≡ zero) (λ l. a.fits.below i j h) (λ l. b.fits.below i (j - k) h);
    right = λ i j h. join_both k (a.at i) (b.at i) j (λ x. x ≡ zero) (λ l. absurd (omega arith)) (λ l. b.fits.right i (j - k) (omega arith));
  };
}
