-- A part of a slice that is written, and a part that is read.
use Rattle.std.proofs.Common.{ℕ, ◌<◌, ◌≤◌, ◌≡◌, ◌+◌, ◌-◌, ◌*◌, List, ◌++◌, length, get_or, take, drop, ap, ◌∙◌, inl, inr, arith, subst, length-append, mul-le-mul_right}
use Rattle.std.proofs.lemmas.Bool.{cases_lt}
use Rattle.std.proofs.lemmas.Nat.{mul-add-lt}
use Rattle.std.proofs.lemmas.List.{get_or-take, get_or-drop, get_or_append_left, get_or-append_right, get_or_past, length-take-le, length-drop}
use Rattle.linear_algebra.specs.Field.{Gf, order}
use Rattle.linear_algebra.specs.FieldLaws.{order-pos}
use Rattle.fp_linear.specs.Slices.{AreElements, IsWritten}

-- a place in row i of m rows of n numbers
pub place_below : (i n j m : ℕ) → i < m → j < n → i * n + j < m * n
place_below i n j m l h = let a = mul-add-lt i n j m l h in omega (arith, a)

-- what stands in a part that is lent
pub lent : (s : List ℕ) (a k j : ℕ) → j < k → get_or (take k (drop a s)) j 0 ≡ get_or s (a + j) 0
lent s a k j h = get_or-take k (drop a s) j 0 h ∙ get_or-drop a s j 0

pub lent_length : (s : List ℕ) (a k : ℕ) → a + k ≤ length s → length (take k (drop a s)) ≡ k
lent_length s a k h = length-take-le k (drop a s) (let d = length-drop a s in omega (arith, d, h))

pub lent_elements : (q : Gf) (s : List ℕ) (a k : ℕ) → a + k ≤ length s → AreElements q s → AreElements q (take k (drop a s))
lent_elements q s a k h e = record {
  small = λ j. elim (cases_lt j k) [
    | inl l ↦ rw (lent s a k j l) (e.small (a + j))
    | inr l ↦ rw (get_or_past {X = ℕ} (take k (drop a s)) j 0 (let c = lent_length s a k h in omega (arith, c, l))) (order-pos q)
  ];
}

-- The part of length n from a on is written over by w.
module _ (s w : List ℕ) (a k n : ℕ) (size : length w ≡ n) (same : k ≡ n) (room : a + n ≤ length s) where
  taken : length (take a s) ≡ a
  taken = length-take-le a s (omega (arith, room))

  pub part_before : (i : ℕ) → i < a → get_or (take a s ++ (w ++ drop k (drop a s))) i 0 ≡ get_or s i 0
  part_before i l = get_or_append_left (take a s) (w ++ drop k (drop a s)) 0 i (omega (arith, taken, l)) ∙ get_or-take a s i 0 l

  behind : (j : ℕ) → ◌≡◌ {A = ℕ} (a + j - a) j
  behind j = omega arith

  pub part_within : (j : ℕ) → j < n → get_or (take a s ++ (w ++ drop k (drop a s))) (a + j) 0 ≡ get_or w j 0
  part_within j l = get_or-append_right (take a s) (w ++ drop k (drop a s)) a (a + j) 0 taken (omega arith) ∙ ap (λ i. get_or (w ++ drop k (drop a s)) i 0) (behind j)
      ∙ get_or_append_left w (drop k (drop a s)) 0 j (omega (arith, size, l))

  rest : (i : ℕ) → a + n ≤ i → ◌≡◌ {A = ℕ} (a + (k + (i - a - n))) i
  rest i l = omega (arith, same, l)

  pub part_after : (i : ℕ) → a + n ≤ i → get_or (take a s ++ (w ++ drop k (drop a s))) i 0 ≡ get_or s i 0
  part_after i l = get_or-append_right (take a s) (w ++ drop k (drop a s)) a i 0 taken (omega (arith, l))
      ∙ get_or-append_right w (drop k (drop a s)) n (i - a) 0 size (omega (arith, l)) ∙ get_or-drop k (drop a s) (i - a - n) 0 ∙ get_or-drop a s (k + (i - a - n)) 0
      ∙ ap (λ j. get_or s j 0) (rest i l)

  pub part_length : length (take a s ++ (w ++ drop k (drop a s))) ≡ length s
  part_length =
      let x = length-append (take a s) (w ++ drop k (drop a s)) in
      let y = length-append w (drop k (drop a s)) in
      let z = length-drop k (drop a s) in
      let t = length-drop a s in
      omega (arith, x, y, z, t, size, taken, same, room)

  pub part_elements : (q : Gf) → AreElements q s → AreElements q w → AreElements q (take a s ++ (w ++ drop k (drop a s)))
  part_elements q e f = record {
    small = λ i. elim (cases_lt i a) [
      | inl l ↦ rw (part_before i l) (e.small i)
      | inr l ↦ elim (cases_lt i (a + n)) [
        | inl h ↦ subst (λ j. get_or (take a s ++ (w ++ drop k (drop a s))) j 0 < order q) (inside i l) (rw (part_within (i - a) (omega (arith, l, h))) (f.small (i - a)))
        | inr h ↦ rw (part_after i h) (e.small i)
      ]
    ];
  }
    where
      inside : (i : ℕ) → a ≤ i → ◌≡◌ {A = ℕ} (a + (i - a)) i
      inside i l = omega (arith, l)

-- The n places behind those that are written already.
pub IsWritten-part : (old mid w : List ℕ) (from a s k n b : ℕ) (g : ℕ → ℕ) → IsWritten old mid from a g → s ≡ from + a → length w ≡ n → k ≡ n → from + a + n ≤ length mid → b ≡ a + n → ((j : ℕ) → j < n → get_or w j 0 ≡ g (a + j))
    → IsWritten old (take s mid ++ (w ++ drop k (drop s mid))) from b g
IsWritten-part old mid w from a s k n b g h start size same room end is = record {
  within = λ j l. elim (cases_lt j a) [
    | inl p ↦ part_before mid w s k n size same fits (from + j) (omega (arith, p, start)) ∙ h.within j p
    | inr p ↦ ap (λ i. get_or (take s mid ++ (w ++ drop k (drop s mid))) i 0) (split j p)
        ∙ part_within mid w s k n size same fits (j - a) (omega (arith, l, p, end)) ∙ is (j - a) (omega (arith, l, p, end)) ∙ ap g (back j p)
  ];
  before = λ i l. part_before mid w s k n size same fits i (omega (arith, l, start)) ∙ h.before i l;
  after = λ i l. part_after mid w s k n size same fits i (omega (arith, l, start, end)) ∙ h.after i (omega (arith, l, end));
}
  where
    fits : s + n ≤ length mid
    fits = omega (arith, start, room)

    split : (j : ℕ) → a ≤ j → ◌≡◌ {A = ℕ} (from + j) (s + (j - a))
    split j p = omega (arith, p, start)

    back : (j : ℕ) → a ≤ j → ◌≡◌ {A = ℕ} (a + (j - a)) j
    back j p = omega (arith, p)

-- Row i of m rows of n numbers is inside.
pub row_room : (m n i : ℕ) (s : List ℕ) → length s ≡ m * n → i < m → i * n + n ≤ length s
row_room m n i s e h = let k = mul-le-mul_right n (let o : i + 1 ≤ m = omega (arith, h) in o) in omega (arith, e, k)

pub next_row : (i n : ℕ) → (i + 1) * n ≡ i * n + n
next_row i n = omega arith
