-- Loops over the entries of rows and over rows: one step of each.
use Rattle.std.proofs.Common.{ℕ, ◌<◌, ◌≤◌, ◌≡◌, ◌≢◌, inl, inr, ◌+◌, ◌*◌, ◌-◌, List, length, get_or, refl, sym, ap, ◌∙◌, arith}
use Rattle.std.specs.List.{swap}
use Rattle.std.proofs.lemmas.List.Edits.{swapped_from_swap, Swapped}
use Rattle.std.proofs.lemmas.Nat.{mul-add-lt, same_from_place}
use Rattle.std.proofs.lemmas.Bool.{cases_lt, cases_eq}
use Rattle.linear_algebra.specs.Field.{Gf, order, add, mul, neg}
use Rattle.linear_algebra.specs.FieldLaws.{mul_zero, zero_mul, add_zero}
use Rattle.fp_linear.specs.Slices.{cell, AreElements, IsWritten, added}
use Rattle.fp_linear.specs.Elimination.{AreExchanged, AreExchangedBelow, IsCleared, IsClearedBelow}
use Rattle.fp_linear.proofs.Cells.{cell-is, cell-written, cell-unwritten, cell-unwritten_row, cell_small}

-- exchanging two rows
pub AreExchangedBelow-none : (m n a b : ℕ) (e : ℕ → ℕ → ℕ) → AreExchangedBelow m n a b 0 e e
AreExchangedBelow-none m n a b e = record { first = λ t h. absurd (omega arith); second = λ t h. absurd (omega arith); others = λ i t h k p r. refl; rest = λ i t h k l. refl }

pub AreExchangedBelow-all : (m n a b : ℕ) (e f : ℕ → ℕ → ℕ) → AreExchangedBelow m n a b n e f → AreExchanged m n a b e f
AreExchangedBelow-all m n a b e f h = record { first = h.first; second = h.second; others = h.others }

pub AreExchanged-same : (m n a b : ℕ) (e : ℕ → ℕ → ℕ) → a ≡ b → AreExchanged m n a b e e
AreExchanged-same m n a b e s = record { first = λ j h. ap (λ i. e i j) s; second = λ j h. ap (λ i. e i j) (sym s); others = λ i j h k p r. refl }

pub AreExchangedBelow-more : (m n a b j : ℕ) (old s : List ℕ) → a < m → b < m → a ≢ b → j < n → length s ≡ m * n → AreExchangedBelow m n a b j (cell n old) (cell n s)
    → AreExchangedBelow m n a b (j + 1) (cell n old) (cell n (swap s (a * n + j) (b * n + j)))
AreExchangedBelow-more m n a b j old s ha hb ne hj len h = record {
  first = λ t l. elim (cases_lt t j) [
    | inl k ↦ away a t (omega arith) (λ e. omega arith) (λ e. omega arith) ∙ h.first t k
    | inr k ↦ let e : t ≡ j = omega arith in ap (cell n swapped a) e ∙ cell-is n swapped a j ∙ w.0 ∙ sym (cell-is n s b j) ∙ h.rest b j hb (omega arith) hj ∙ ap (cell n old b) (sym e)
  ];
  second = λ t l. elim (cases_lt t j) [
    | inl k ↦ away b t (omega arith) (λ e. omega arith) (λ e. omega arith) ∙ h.second t k
    | inr k ↦ let e : t ≡ j = omega arith in ap (cell n swapped b) e ∙ cell-is n swapped b j ∙ w.1 ∙ sym (cell-is n s a j) ∙ h.rest a j ha (omega arith) hj ∙ ap (cell n old a) (sym e)
  ];
  others = λ i t l k p r. away i t k (λ e. p (e.0)) (λ e. r (e.0)) ∙ h.others i t l k p r;
  rest = λ i t l k p. away i t p (λ e. let x = e.1 in omega arith) (λ e. let x = e.1 in omega arith) ∙ h.rest i t l (omega arith) p;
}
  where
    swapped : List ℕ
    swapped = swap s (a * n + j) (b * n + j)

    w : Swapped (λ i. get_or s i 0) (λ i. get_or swapped i 0) (a * n + j) (b * n + j)
    w = swapped_from_swap s swapped (a * n + j) (b * n + j) 0 (let f = mul-add-lt a n j m ha hj in omega arith) (let f = mul-add-lt b n j m hb hj in omega arith) refl

    -- the other places
    away : (i t : ℕ) → t < n → ((i ≡ a) × (t ≡ j) → ⊥) → ((i ≡ b) × (t ≡ j) → ⊥) → cell n swapped i t ≡ cell n s i t
    away i t l p r = cell-is n swapped i t ∙ w.2 (i * n + t) (λ e. p (same_from_place i t a j n l hj e)) (λ e. r (same_from_place i t b j n l hj e)) ∙ sym (cell-is n s i t)

pub AreElements-swap : (q : Gf) (s : List ℕ) (x y : ℕ) → x < length s → y < length s → AreElements q s → AreElements q (swap s x y)
AreElements-swap q s x y hx hy h =
    let w = swapped_from_swap s (swap s x y) x y 0 hx hy refl in
    record {
      small = λ k. elim (cases_eq k x) [
        | inl e ↦ rw (e, w.0) (h.small y)
        | inr n ↦ elim (cases_eq k y) [ inl e ↦ rw (e, w.1) (h.small x) | inr m ↦ rw (w.2 k n m) (h.small k) ]
      ];
    }

-- clearing a column
pub IsClearedBelow-none : (q : Gf) (m n r c : ℕ) (e : ℕ → ℕ → ℕ) → IsClearedBelow q m n r c 0 e e
IsClearedBelow-none q m n r c e = record { row = λ j h. refl; done = λ i j h. absurd (omega arith); rest = λ i j h k l. refl }

pub IsClearedBelow-all : (q : Gf) (m n r c k : ℕ) (e f : ℕ → ℕ → ℕ) → m ≤ k → IsClearedBelow q m n r c k e f → IsCleared q m n r c e f
IsClearedBelow-all q m n r c k e f l h = record { row = h.row; others = λ i j p. h.done i j (omega arith) p }

pub IsClearedBelow-skip : (q : Gf) (m n r c k : ℕ) (e f : ℕ → ℕ → ℕ) → k ≡ r → IsClearedBelow q m n r c k e f → IsClearedBelow q m n r c (k + 1) e f
IsClearedBelow-skip q m n r c k e f s h = record { row = h.row; done = λ i j p u v d. h.done i j (omega arith) u v d; rest = λ i j p. h.rest i j (omega arith) }

pub IsClearedBelow-zero : (q : Gf) (m n r c k : ℕ) (e f : ℕ → ℕ → ℕ) → ((i j : ℕ) → e i j < order q) → neg q (f k c) ≡ 0 → c < n → IsClearedBelow q m n r c k e f → IsClearedBelow q m n r c (k + 1) e f
IsClearedBelow-zero q m n r c k e f small z hc h = record {
  row = h.row;
  done = λ i j p u v d. elim (cases_lt i k) [
    | inl l ↦ h.done i j l u v d
    | inr l ↦
        let s : i ≡ k = omega arith in
        let none : neg q (e i c) ≡ 0 = ap (neg q) (sym (h.rest i c (omega arith) u hc)) ∙ ap (λ i. neg q (f i c)) s ∙ z in
        h.rest i j (omega arith) u v ∙ sym (ap (λ y. add q (e i j) (mul q y (e r j))) none ∙ ap (add q (e i j)) (zero_mul q _) ∙ add_zero q _ (small i j))
  ];
  rest = λ i j p. h.rest i j (omega arith);
}

pub IsClearedBelow-more : (q : Gf) (m n r c k factor : ℕ) (old s new : List ℕ) → AreElements q old → ((j : ℕ) → j < c → cell n old r j ≡ 0) → r < m → k < m → c < n → k ≢ r → factor ≡ neg q (cell n s k c)
    → IsWritten s new (k * n + c) (n - c) (added q factor (r * n + c) (k * n + c) s) → IsClearedBelow q m n r c k (cell n old) (cell n s) → IsClearedBelow q m n r c (k + 1) (cell n old) (cell n new)
IsClearedBelow-more q m n r c k factor old s new small before hr hk hc ne fac w h = record {
  row = λ j l. unwritten r j l (λ e. ne (sym e)) ∙ h.row j l;
  done = λ i j p u v d. elim (cases_lt i k) [
    | inl l ↦ unwritten i j v (λ e. omega arith) ∙ h.done i j l u v d
    | inr l ↦
        let e : i ≡ k = omega arith in
        ap (λ i. cell n new i j) e ∙ written j v ∙ ap (λ i. add q (cell n old i j) (mul q (neg q (cell n old i c)) (cell n old r j))) (sym e)
  ];
  rest = λ i j p u v. unwritten i j v (λ e. omega arith) ∙ h.rest i j (omega arith) u v;
}
  where
    unwritten : (i j : ℕ) → j < n → i ≢ k → cell n new i j ≡ cell n s i j
    unwritten i j l d = cell-unwritten s new n k c (k * n + c) (n - c) _ refl (omega arith) w i j l d

    factor-is : factor ≡ neg q (cell n old k c)
    factor-is = fac ∙ ap (neg q) (h.rest k c (omega arith) hk hc)

    place : (i j : ℕ) → c ≤ j → get_or s (i * n + c + (j - c)) 0 ≡ cell n s i j
    place i j l = let e : i * n + c + (j - c) ≡ i * n + j = omega arith in ap (λ x. get_or s x 0) e ∙ sym (cell-is n s i j)

    written : (j : ℕ) → j < n → cell n new k j ≡ add q (cell n old k j) (mul q (neg q (cell n old k c)) (cell n old r j))
    written j l = elim (cases_lt j c) [
      | inl b ↦ cell-unwritten_row s new n k c (k * n + c) (n - c) _ refl w j b ∙ h.rest k j (omega arith) hk l
          ∙ sym (ap (λ y. add q (cell n old k j) (mul q (neg q (cell n old k c)) y)) (before j b) ∙ ap (add q (cell n old k j)) (mul_zero q _) ∙ add_zero q _ (cell_small q n old k j small))
      | inr b ↦ cell-written s new n k c (k * n + c) (n - c) _ refl w j b (omega arith)
          ∙ ap (λ y. add q y (mul q factor (get_or s (r * n + c + (j - c)) 0))) (place k j b ∙ h.rest k j (omega arith) hk l)
          ∙ ap (λ y. add q (cell n old k j) (mul q factor y)) (place r j b ∙ h.row j l)
          ∙ ap (λ y. add q (cell n old k j) (mul q y (cell n old r j))) factor-is
    ]
