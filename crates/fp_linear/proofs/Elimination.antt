-- One column of elimination.
use Rattle.std.proofs.Common.{ℕ, ◌<◌, ◌≤◌, ◌≡◌, ◌≢◌, inl, inr, ◌+◌, sym, ap, ◌∙◌, arith}
use Rattle.std.proofs.lemmas.Bool.{cases_lt, cases_eq}
use Rattle.linear_algebra.specs.Field.{Gf, order, add, mul, neg}
use Rattle.linear_algebra.specs.FieldLaws.{mul_zero, add_zero, add_neg, mul_one, neg_below}
use Rattle.fp_linear.specs.Elimination.{IsPartlyReduced, AreExchanged, IsScaled, IsCleared}

-- no pivot in this column
pub IsPartlyReduced-skip : (m c r : ℕ) (e : ℕ → ℕ → ℕ) (p : ℕ → ℕ) → IsPartlyReduced m c r e p → ((i : ℕ) → r ≤ i → i < m → e i c ≡ 0) → IsPartlyReduced m (c + 1) r e p
IsPartlyReduced-skip m c r e p h z = record {
  fits = h.fits;
  inside = λ i l. omega (arith, h.inside i l);
  further = h.further;
  one = h.one;
  cleared = h.cleared;
  before = h.before;
  below = λ i j l k b. elim (cases_lt j c) [ inl o ↦ h.below i j l k o | inr o ↦ let s : j ≡ c = omega arith in ap (e i) s ∙ z i l k ];
}

-- rows from r on change, and keep their zeros in the columns that are done
pub IsPartlyReduced-rest : (m c r : ℕ) (e f : ℕ → ℕ → ℕ) (p : ℕ → ℕ) → IsPartlyReduced m c r e p → ((i j : ℕ) → i < r → j < c → f i j ≡ e i j) → ((i j : ℕ) → r ≤ i → i < m → j < c → f i j ≡ 0)
    → IsPartlyReduced m c r f p
IsPartlyReduced-rest m c r e f p h s z = record {
  fits = h.fits;
  inside = h.inside;
  further = h.further;
  one = λ i l. s i (p i) l (h.inside i l) ∙ h.one i l;
  cleared = λ i k l b n. elim (cases_lt k r) [ inl o ↦ s k (p i) o (h.inside i l) ∙ h.cleared i k l b n | inr o ↦ z k (p i) o b (h.inside i l) ];
  before = λ i j l b. s i j l (let k = h.inside i l in omega arith) ∙ h.before i j l b;
  below = z;
}

pub IsPartlyReduced-exchanged : (m n c r b : ℕ) (e f : ℕ → ℕ → ℕ) (p : ℕ → ℕ) → IsPartlyReduced m c r e p → AreExchanged m n r b e f → r ≤ b → b < m → c ≤ n → IsPartlyReduced m c r f p
IsPartlyReduced-exchanged m n c r b e f p h x le lt w =
    IsPartlyReduced-rest m c r e f p h
    (λ i j l k. x.others i j (omega arith) (omega arith) (λ s. omega arith) (λ s. omega arith))
    (λ i j l o k. elim (cases_eq i r) [
      | inl s ↦ ap (λ i. f i j) s ∙ x.first j (omega arith) ∙ h.below b j le lt k
      | inr d ↦ elim (cases_eq i b) [
        | inl s ↦ ap (λ i. f i j) s ∙ x.second j (omega arith) ∙ h.below r j (omega arith) (omega arith) k
        | inr n' ↦ x.others i j o (omega arith) d n' ∙ h.below i j l o k
      ]
    ])

pub IsPartlyReduced-scaled : (q : Gf) (m n c r a : ℕ) (e f : ℕ → ℕ → ℕ) (p : ℕ → ℕ) → IsPartlyReduced m c r e p → IsScaled q m n r a e f → r < m → c ≤ n → IsPartlyReduced m c r f p
IsPartlyReduced-scaled q m n c r a e f p h x lt w =
    IsPartlyReduced-rest m c r e f p h
    (λ i j l k. x.others i j (omega arith) (omega arith) (λ s. omega arith))
    (λ i j l o k. elim (cases_eq i r) [
      | inl s ↦ ap (λ i. f i j) s ∙ x.row j (omega arith) ∙ ap (mul q a) (h.below r j (omega arith) lt k) ∙ mul_zero q a
      | inr d ↦ x.others i j o (omega arith) d ∙ h.below i j l o k
    ])

pub IsPartlyReduced-cleared : (q : Gf) (m n c r : ℕ) (e f : ℕ → ℕ → ℕ) (p o : ℕ → ℕ) → IsPartlyReduced m c r e p → ((i j : ℕ) → e i j < order q) → IsCleared q m n r c e f → r < m → c < n → e r c ≡ 1
    → ((i : ℕ) → i < r → o i ≡ p i) → o r ≡ c → IsPartlyReduced m (c + 1) (r + 1) f o
IsPartlyReduced-cleared q m n c r e f p o h small x lt w one same last = record {
  fits = omega arith;
  inside = λ i l. elim (cases_lt i r) [ inl k ↦ rw (same i k) (let b = h.inside i k in omega arith) | inr k ↦ let s : i ≡ r = omega arith in rw (s, last) (omega arith) ];
  further = λ i k l b. elim (cases_lt k r) [
    | inl d ↦ rw (same i (omega arith), same k d) (h.further i k l d)
    | inr d ↦ let s : k ≡ r = omega arith in let i-in : i < r = omega arith in rw (s, last, same i i-in) (h.inside i i-in)
  ];
  one = λ i l. elim (cases_lt i r) [
    | inl k ↦ ap (f i) (same i k) ∙ kept i (p i) (omega arith) (h.inside i k) ∙ h.one i k
    | inr k ↦ let s : i ≡ r = omega arith in ap (λ i. f i (o i)) s ∙ ap (f r) last ∙ x.row c w ∙ one
  ];
  cleared = λ i k l b d. elim (cases_lt i r) [
    | inl t ↦ ap (f k) (same i t) ∙ kept k (p i) b (h.inside i t) ∙ h.cleared i k t b d
    | inr t ↦ let s : i ≡ r = omega arith in ap (λ i. f k (o i)) s ∙ ap (f k) last ∙ gone k b (omega arith)
  ];
  before = λ i j l b. elim (cases_lt i r) [
    | inl k ↦ let u : j < p i = (rw (← (same i k)) b) in kept i j (omega arith) (let v = h.inside i k in omega arith) ∙ h.before i j k u
    | inr k ↦ let s : i ≡ r = omega arith in let u : o i ≡ c = ap o s ∙ last in ap (λ i. f i j) s ∙ kept r j lt (omega arith) ∙ h.below r j (omega arith) lt (omega arith)
  ];
  below = λ i j l b k. elim (cases_lt j c) [
    | inl t ↦ kept i j b t ∙ h.below i j (omega arith) b t
    | inr t ↦ let s : j ≡ c = omega arith in ap (f i) s ∙ gone i b (omega arith)
  ];
}
  where
    -- the columns that are done stay as they are
    kept : (i j : ℕ) → i < m → j < c → f i j ≡ e i j
    kept i j l k = elim (cases_eq i r) [
      | inl s ↦ ap (λ i. f i j) s ∙ x.row j (omega arith) ∙ ap (λ i. e i j) (sym s)
      | inr d ↦ x.others i j l (omega arith) d ∙ ap (λ y. add q (e i j) (mul q (neg q (e i c)) y)) (h.below r j (omega arith) lt k) ∙ ap (add q (e i j)) (mul_zero q _) ∙ add_zero q _ (small i j)
    ]

    -- and the new one is cleared
    gone : (i : ℕ) → i < m → i ≢ r → f i c ≡ 0
    gone i l d = x.others i c l w d ∙ ap (λ y. add q (e i c) (mul q (neg q (e i c)) y)) one ∙ ap (add q (e i c)) (mul_one q _ (neg_below q _)) ∙ add_neg q (e i c)
