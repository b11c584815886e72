-- Two rows of one slice, lent apart.
use Rattle.std.proofs.Common.{ℕ, ◌<◌, ◌≤◌, ◌≡◌, inl, inr, ◌+◌, ◌-◌, List, ◌++◌, length, get_or, take, drop, sym, ap, ap₂, ◌∙◌, arith, length-append}
use Rattle.std.proofs.lemmas.List.{get_or-take, get_or-drop, get_or-append-add, get_or_append_left, get_or-append_right, get_or_past, length-take-le, length-drop}
use Rattle.std.proofs.lemmas.Bool.{cases_lt}
use Rattle.linear_algebra.specs.Field.{Gf, add, mul}
use Rattle.linear_algebra.specs.FieldLaws.{order-pos}
use Rattle.fp_linear.specs.Slices.{AreElements, IsWritten, AreApart, plus_multiple, added}
use Rattle.fp_linear.proofs.Slices.{length-plus, plus-at}

pub apart_below : (a b count : ℕ) → AreApart a b count → a < b → a + count ≤ b
apart_below a b count h l = elim (cases_lt b (a + count)) [ inl o ↦ absurd (h.apart (b - a) 0 (omega arith) (omega arith) (omega arith)) | inr o ↦ o ]

pub apart_above : (a b count : ℕ) → AreApart a b count → b ≤ a → b + count ≤ a
apart_above a b count h l = elim (cases_lt a (b + count)) [ inl o ↦ absurd (h.apart 0 (a - b) (omega arith) (omega arith) (omega arith)) | inr o ↦ o ]

pub AreElements-front : (q : Gf) (all front back : List ℕ) → all ≡ front ++ back → AreElements q all → AreElements q front
AreElements-front q all front back e a = record {
  small = λ k. elim (cases_lt k (length front)) [
    | inl l ↦ rw (sym (get_or_append_left front back 0 k l), sym (ap (λ s. get_or s k 0) e)) (a.small k)
    | inr l ↦ rw (get_or_past {X = ℕ} front k 0 l) (order-pos q)
  ];
}

pub AreElements-back : (q : Gf) (all front back : List ℕ) → all ≡ front ++ back → AreElements q all → AreElements q back
AreElements-back q all front back e a = record { small = λ k. rw (sym (get_or-append-add front back k 0), sym (ap (λ s. get_or s (length front + k) 0) e)) (a.small (length front + k)) }

pub AreElements-take : (q : Gf) (n : ℕ) (s : List ℕ) → n ≤ length s → AreElements q s → AreElements q (take n s)
AreElements-take q n s h a = record {
  small = λ k. elim (cases_lt k n) [
    | inl l ↦ rw (get_or-take n s k 0 l) (a.small k)
    | inr l ↦ rw (get_or_past {X = ℕ} (take n s) k 0 (let c = length-take-le n s h in omega arith)) (order-pos q)
  ];
}

pub AreElements-drop : (q : Gf) (n : ℕ) (s : List ℕ) → AreElements q s → AreElements q (drop n s)
AreElements-drop q n s a = record { small = λ k. rw (get_or-drop n s k 0) (a.small (n + k)) }

-- a part is written that was lent alone
pub IsWritten-part : (a count n : ℕ) (old written : List ℕ) → n ≡ count → length written ≡ count → a + count ≤ length old → IsWritten old (take a old ++ (written ++ drop n (drop a old))) a count (λ j. get_or written j 0)
IsWritten-part a count n old written ne size fits = record {
  within = λ j l.
      get_or-append_right (take a old) (written ++ drop n (drop a old)) a (a + j) 0 taken (omega arith)
      ∙ ap (λ k. get_or (written ++ drop n (drop a old)) k 0) (place j)
      ∙ get_or_append_left written (drop n (drop a old)) 0 j (omega (arith, size, l));
  before = λ k l. get_or_append_left (take a old) (written ++ drop n (drop a old)) 0 k (omega (arith, taken, l)) ∙ get_or-take a old k 0 l;
  after = λ k l.
      get_or-append_right (take a old) (written ++ drop n (drop a old)) a k 0 taken (omega arith)
      ∙ get_or-append_right written (drop n (drop a old)) count (k - a) 0 size (omega arith)
      ∙ get_or-drop n (drop a old) (k - a - count) 0 ∙ get_or-drop a old (n + (k - a - count)) 0
      ∙ ap (λ i. get_or old i 0) (rest k l);
}
  where
    taken : length (take a old) ≡ a
    taken = length-take-le a old (omega arith)

    place : (j : ℕ) → ◌≡◌ {A = ℕ} (a + j - a) j
    place j = omega arith

    rest : (k : ℕ) → a + count ≤ k → ◌≡◌ {A = ℕ} (a + (n + (k - a - count))) k
    rest k l = omega arith

-- the row that is written stands behind the one that is added
pub IsWritten-behind : (q : Gf) (f a b count : ℕ) (all front back src dst written : List ℕ) → all ≡ front ++ back → length front ≡ b
    → ((j : ℕ) → j < count → get_or src j 0 ≡ get_or front (a + j) 0) → ((j : ℕ) → j < count → get_or dst j 0 ≡ get_or back j 0) → length dst ≡ count → written ≡ plus_multiple q f src dst → a + count ≤ b
    → IsWritten all (front ++ (written ++ drop count back)) b count (added q f a b all)
IsWritten-behind q f a b count all front back src dst written e fl hs hd dl w fits = record {
  within = λ j l.
      get_or-append_right front (written ++ drop count back) b (b + j) 0 fl (omega arith)
      ∙ ap (λ k. get_or (written ++ drop count back) k 0) (place j)
      ∙ get_or_append_left written (drop count back) 0 j (omega (arith, size, l))
      ∙ ap (λ s. get_or s j 0) w ∙ plus-at q f src dst j (omega (arith, dl, l))
      ∙ ap₂ (λ x y. add q x (mul q f y)) (hd j l ∙ sym (second j)) (hs j l ∙ sym (first j (omega arith)));
  before = λ k l. get_or_append_left front (written ++ drop count back) 0 k (omega (arith, fl, l)) ∙ sym (ap (λ s. get_or s k 0) e ∙ get_or_append_left front back 0 k (omega (arith, fl, l)));
  after = λ k l.
      get_or-append_right front (written ++ drop count back) b k 0 fl (omega arith)
      ∙ get_or-append_right written (drop count back) count (k - b) 0 size (omega arith)
      ∙ get_or-drop count back (k - b - count) 0
      ∙ ap (λ i. get_or back i 0) (rest k l)
      ∙ sym (ap (λ s. get_or s k 0) e ∙ get_or-append_right front back b k 0 fl (omega arith));
}
  where
    size : length written ≡ count
    size = ap length w ∙ length-plus q f src dst ∙ dl

    place : (j : ℕ) → ◌≡◌ {A = ℕ} (b + j - b) j
    place j = omega arith

    rest : (k : ℕ) → b + count ≤ k → ◌≡◌ {A = ℕ} (count + (k - b - count)) (k - b)
    rest k l = omega arith

    second : (j : ℕ) → get_or all (b + j) 0 ≡ get_or back j 0
    second j = ap (λ s. get_or s (b + j) 0) e ∙ get_or-append_right front back b (b + j) 0 fl (omega arith) ∙ ap (λ k. get_or back k 0) (place j)

    first : (j : ℕ) → j < count → get_or all (a + j) 0 ≡ get_or front (a + j) 0
    first j l = ap (λ s. get_or s (a + j) 0) e ∙ get_or_append_left front back 0 (a + j) (omega (arith, fl, fits, l))

-- the row that is written stands before the one that is added
pub IsWritten-before : (q : Gf) (f a b count n : ℕ) (all front back src dst written : List ℕ) → all ≡ front ++ back → length front ≡ a → n ≡ count
    → ((j : ℕ) → j < count → get_or src j 0 ≡ get_or back j 0) → ((j : ℕ) → j < count → get_or dst j 0 ≡ get_or front (b + j) 0) → length dst ≡ count → written ≡ plus_multiple q f src dst → b + count ≤ a
    → IsWritten all ((take b front ++ (written ++ drop n (drop b front))) ++ back) b count (added q f a b all)
IsWritten-before q f a b count n all front back src dst written e fl ne hs hd dl w fits = record {
  within = λ j l.
      get_or_append_left _ back 0 (b + j) (omega (arith, whole, fits, l))
      ∙ get_or-append_right (take b front) (written ++ drop n (drop b front)) b (b + j) 0 taken (omega arith)
      ∙ ap (λ k. get_or (written ++ drop n (drop b front)) k 0) (place j)
      ∙ get_or_append_left written (drop n (drop b front)) 0 j (omega (arith, size, l))
      ∙ ap (λ s. get_or s j 0) w ∙ plus-at q f src dst j (omega (arith, dl, l))
      ∙ ap₂ (λ x y. add q x (mul q f y)) (hd j l ∙ sym (in_front (b + j) (omega (arith, fits, l)))) (hs j l ∙ sym (second j));
  before = λ k l.
      get_or_append_left _ back 0 k (omega (arith, whole, fits, l))
      ∙ get_or_append_left (take b front) (written ++ drop n (drop b front)) 0 k (omega (arith, taken, l))
      ∙ get_or-take b front k 0 l ∙ sym (in_front k (omega (arith, fits, l)));
  after = λ k l. elim (cases_lt k a) [
    | inl s ↦
        get_or_append_left _ back 0 k (omega (arith, whole, s))
        ∙ get_or-append_right (take b front) (written ++ drop n (drop b front)) b k 0 taken (omega arith)
        ∙ get_or-append_right written (drop n (drop b front)) count (k - b) 0 size (omega arith)
        ∙ get_or-drop n (drop b front) (k - b - count) 0
        ∙ get_or-drop b front (n + (k - b - count)) 0
        ∙ ap (λ i. get_or front i 0) (rest k l)
        ∙ sym (in_front k s)
    | inr s ↦
        get_or-append_right _ back a k 0 whole s
        ∙ sym (ap (λ x. get_or x k 0) e ∙ get_or-append_right front back a k 0 fl s)
  ];
}
  where
    size : length written ≡ count
    size = ap length w ∙ length-plus q f src dst ∙ dl

    taken : length (take b front) ≡ b
    taken = length-take-le b front (omega (arith, fl, fits))

    whole : length (take b front ++ (written ++ drop n (drop b front))) ≡ a
    whole =
        let x = length-append (take b front) (written ++ drop n (drop b front)) in
        let y = length-append written (drop n (drop b front)) in
        let z = length-drop n (drop b front) in
        let t = length-drop b front in
        omega (arith, x, y, z, t, size, taken, fl, ne, fits)

    place : (j : ℕ) → ◌≡◌ {A = ℕ} (b + j - b) j
    place j = omega arith

    rest : (k : ℕ) → b + count ≤ k → ◌≡◌ {A = ℕ} (b + (n + (k - b - count))) k
    rest k l = omega (arith, ne, l)

    in_front : (k : ℕ) → k < a → get_or all k 0 ≡ get_or front k 0
    in_front k l = ap (λ s. get_or s k 0) e ∙ get_or_append_left front back 0 k (omega (arith, fl, l))

    second : (j : ℕ) → get_or all (a + j) 0 ≡ get_or back j 0
    second j =
        let z : ◌≡◌ {A = ℕ} (a + j - a) j = omega arith in
        ap (λ s. get_or s (a + j) 0) e ∙ get_or-append_right front back a (a + j) 0 fl (omega arith) ∙ ap (λ k. get_or back k 0) z
