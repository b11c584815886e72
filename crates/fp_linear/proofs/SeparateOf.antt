-- Separating a row from a row space, as the code does it.
use Rattle.std.proofs.Common.{ℕ, ◌<◌, ◌≤◌, ◌≡◌, ◌≢◌, inl, inr, ◌+◌, ◌*◌, List, [], length, get_or, set, take, sym, ap, ◌∙◌, arith, get_or-set_same, get_or-set_other}
use Rattle.std.specs.Prelude.{MatchOption, Option, None, Some}
use Rattle.std.proofs.lemmas.List.{ext_get_or, get_or-take, length-take-le}
use Rattle.std.proofs.lemmas.Nat.{row_fits}
use Rattle.std.proofs.lemmas.Bool.{cases_lt, cases_order}
use Rattle.linear_algebra.specs.Field.{Gf, neg}
use Rattle.linear_algebra.specs.Rows.{rows_of, entry}
use Rattle.linear_algebra.specs.Reduced.{IsReduced, pivot}
use Rattle.linear_algebra.specs.Separators.{IsFunctionalAt}
use Rattle.linear_algebra.proofs.Rows.{length-rows_of, row-rows_of, list_of-same}
use Rattle.fp_linear.specs.Elimination.{IsFunctionalUpTo}

-- the first rows of a slice
pub rows_of-take : (m n r : ℕ) (s : List ℕ) → r ≤ m → rows_of r n (take (r * n) s) ≡ take r (rows_of m n s)
rows_of-take m n r s h =
    let whole = length-rows_of m n s in
    let count = length-rows_of r n (take (r * n) s) in
    let size = length-take-le r (rows_of m n s) (omega arith) in
    ext_get_or [] _ _ (omega arith) (λ i l.
    let b : i < r = omega arith in
    row-rows_of r n (take (r * n) s) i b
    ∙ list_of-same n _ _ 0 (λ j k. get_or-take (r * n) s (i * n + j) 0 (let f = row_fits i n r n b (omega arith) in omega arith))
    ∙ sym (row-rows_of m n s i (omega arith)) ∙ sym (get_or-take r (rows_of m n s) i [] b))

-- the same where the numbers and the slice are told by equations
pub rows_of-taken : (m n r k w : ℕ) (s t : List ℕ) → r ≤ m → k ≡ r → w ≡ n → t ≡ s → rows_of k w (take (r * n) t) ≡ take r (rows_of m n s)
rows_of-taken m n r k w s t h ke we te = ap (λ k. rows_of k w (take (r * n) t)) ke ∙ ap (λ w. rows_of r w (take (r * n) t)) we ∙ ap (λ t. rows_of r n (take (r * n) t)) te ∙ rows_of-take m n r s h

pub MatchOption-told : {T A B : Type 0} {P Q : T → Type 0} (o : Option T) → (A → B) → ((y : T) → P y → Q y) → MatchOption o A P → MatchOption o B Q
MatchOption-told None f g h = f h
MatchOption-told (Some y) f g h = g y h

-- pivots of different rows differ
pub pivot-different : (n : ℕ) (form : List (List ℕ)) (i k : ℕ) → IsReduced n form → i < length form → k < length form → k ≢ i → pivot form k ≢ pivot form i
pivot-different n form i k h l b d e = elim (cases_order k i) [
  | inl s ↦ absurd (d s)
  | inr o ↦ elim o [
    | inl s ↦ let f = h.further k i s l in omega arith
    | inr s ↦ let f = h.further i k s b in omega arith
  ]
]

pub IsFunctionalUpTo-none : (q : Gf) (n c : ℕ) (form : List (List ℕ)) (s : List ℕ) → c < length s → ((k : ℕ) → get_or s k 0 ≡ 0) → IsFunctionalUpTo q n c 0 form (set s c 1)
IsFunctionalUpTo-none q n c form s h z = record {
  at_column = get_or-set_same s c 1 0 h;
  at_pivot = λ i l. absurd (omega arith);
  elsewhere = λ j l d none. get_or-set_other s c j 1 0 d ∙ z j;
}

pub IsFunctionalUpTo-more : (q : Gf) (n c k p v : ℕ) (form : List (List ℕ)) (s : List ℕ) → IsReduced n form → k < length form → length s ≡ n → p ≡ pivot form k → v ≡ neg q (entry form k c) → ((i : ℕ) → i < length form → pivot form i ≢ c)
    → IsFunctionalUpTo q n c k form s → IsFunctionalUpTo q n c (k + 1) form (set s p v)
IsFunctionalUpTo-more q n c k p v form s r hk size pe ve apart h = rw pe record {
  at_column = get_or-set_other s (pivot form k) c v 0 (λ x. apart k hk (sym x)) ∙ h.at_column;
  at_pivot = λ i l. elim (cases_lt i k) [
    | inl u ↦ get_or-set_other s (pivot form k) (pivot form i) v 0 (pivot-different n form k i r hk (omega arith) (λ x. omega arith)) ∙ h.at_pivot i u
    | inr u ↦ let x : i ≡ k = omega arith in ap (λ i. get_or (set s (pivot form k) v) (pivot form i) 0) x ∙ get_or-set_same s (pivot form k) v 0 (let b = r.nonzero k hk in omega arith) ∙ ve ∙ ap (λ i. neg q (entry form i c)) (sym x)
  ];
  elsewhere = λ j l d none. get_or-set_other s (pivot form k) j v 0 (λ x. none k (omega arith) (sym x)) ∙ h.elsewhere j l d (λ i u. none i (omega arith));
}

pub IsFunctionalAt-whole : (q : Gf) (n c m : ℕ) (form : List (List ℕ)) (s : List ℕ) → length form ≡ m → length s ≡ n → IsFunctionalUpTo q n c m form s → IsFunctionalAt q n form c s
IsFunctionalAt-whole q n c m form s e size h = record {
  count = size;
  at_column = h.at_column;
  at_pivot = λ i l. h.at_pivot i (omega arith);
  elsewhere = λ j l d none. h.elsewhere j l d (λ i u. none i (omega arith));
}
