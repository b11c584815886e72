-- Bounded search: where each number below n is of one kind or of another, one of the first kind is found or all are of the second.
use Rattle.std.proofs.Common.{ℕ, zero, suc, ◌<◌, ◌≡◌, ◌≢◌, ◌⊎◌, inl, inr, arith, not-suc-le-zero, subst}
use Rattle.std.proofs.lemmas.Bool.{cases_lt, cases_eq}
use Rattle.linear_algebra.specs.Field.{Gf}
use Rattle.linear_algebra.specs.Matrix.{Mat, Mat-eq_below, zeros}

pub search_or_all : (n : ℕ) (P Q : ℕ → Type 0) → ((i : ℕ) → P i ⊎ Q i) → ((i : ℕ) × (i < n) × P i) ⊎ ((i : ℕ) → i < n → Q i)
search_or_all zero P Q d = inr (λ i h. absurd (not-suc-le-zero h))
search_or_all (suc n) P Q d = go (search_or_all n P Q d) (d n)
  where
    go : (((i : ℕ) × (i < n) × P i) ⊎ ((i : ℕ) → i < n → Q i)) → P n ⊎ Q n → ((i : ℕ) × (i < suc n) × P i) ⊎ ((i : ℕ) → i < suc n → Q i)
    go (inl f) e = let (i, h, p) = f in inl (i, omega arith, p)
    go (inr a) (inl p) = inl (n, omega arith, p)
    go (inr a) (inr r) = inr (λ i h. elim (cases_lt i n) [ inl l ↦ a i l | inr l ↦ let same : n ≡ i = omega arith in subst Q same r ])

-- The same with the first one.
pub first_or_all : (n : ℕ) (P Q : ℕ → Type 0) → ((i : ℕ) → P i ⊎ Q i) → ((i : ℕ) × (i < n) × P i × ((k : ℕ) → k < i → Q k)) ⊎ ((i : ℕ) → i < n → Q i)
first_or_all zero P Q d = inr (λ i h. absurd (not-suc-le-zero h))
first_or_all (suc n) P Q d = go (first_or_all n P Q d) (d n)
  where
    go : (((i : ℕ) × (i < n) × P i × ((k : ℕ) → k < i → Q k)) ⊎ ((i : ℕ) → i < n → Q i)) → P n ⊎ Q n → ((i : ℕ) × (i < suc n) × P i × ((k : ℕ) → k < i → Q k)) ⊎ ((i : ℕ) → i < suc n → Q i)
    go (inl f) e = let (i, h, p, z) = f in inl (i, omega arith, p, z)
    go (inr a) (inl p) = inl (n, omega arith, p, a)
    go (inr a) (inr r) = inr (λ i h. elim (cases_lt i n) [ inl l ↦ a i l | inr l ↦ let same : n ≡ i = omega arith in subst Q same r ])

pub zero_or_not : (a : ℕ) → (a ≢ zero) ⊎ (a ≡ zero)
zero_or_not a = elim (cases_eq a zero) [ inl e ↦ inr e | inr n ↦ inl n ]

-- A function has a first nonzero value below n, or is zero there.
pub first_nonzero : (n : ℕ) (f : ℕ → ℕ) → ((i : ℕ) × (i < n) × (f i ≢ zero) × ((k : ℕ) → k < i → f k ≡ zero)) ⊎ ((i : ℕ) → i < n → f i ≡ zero)
first_nonzero n f = first_or_all n (λ i. f i ≢ zero) (λ i. f i ≡ zero) (λ i. zero_or_not (f i))

-- A matrix has an entry that is not zero, or is the zero matrix.
pub record HasEntry {q : Gf} {m n : ℕ} (a : Mat q m n) : Type 0 where
  pub line : ℕ
  pub place : ℕ
  pub line_below : line < m
  pub place_below : place < n
  pub nonzero : a.at line place ≢ zero

pub entry_or_zeros : {q : Gf} {m n : ℕ} (a : Mat q m n) → HasEntry a ⊎ (a ≡ zeros q m n)
unfolding zeros
entry_or_zeros {q} {m} {n} a =
    go (search_or_all m (λ i. (j : ℕ) × (j < n) × (a.at i j ≢ zero)) (λ i. (j : ℕ) → j < n → a.at i j ≡ zero)
    (λ i. search_or_all n (λ j. a.at i j ≢ zero) (λ j. a.at i j ≡ zero) (λ j. zero_or_not (a.at i j))))
  where
    go : ((i : ℕ) × (i < m) × ((j : ℕ) × (j < n) × (a.at i j ≢ zero))) ⊎ ((i : ℕ) → i < m → (j : ℕ) → j < n → a.at i j ≡ zero) → HasEntry a ⊎ (a ≡ zeros q m n)
    go (inl f) = inl (record { line = f.0; place = f.2.0; line_below = f.1; place_below = f.2.1; nonzero = f.2.2 })
    go (inr z) = inr (Mat-eq_below a (zeros q m n) (λ i j h k. z i h j k))
