-- The span of rows in reduced row form: coefficients are read at the pivots, first entries stand at pivots, remainders.
use Rattle.std.proofs.Common.{ℕ, zero, suc, ◌<◌, ◌≤◌, ◌≡◌, ◌≢◌, ◌%◌, ◌⊎◌, inl, inr, List, length, get_or, sym, ap, ◌∙◌, subst, arith, mod-eq_of_lt}
use Rattle.std.proofs.Math.Nat.{mod-mod}
use Rattle.std.proofs.lemmas.List.{get_or_past}
use Rattle.std.proofs.lemmas.Bool.{cases_lt, cases_eq}
use Rattle.linear_algebra.specs.Field.{Gf, order, add, mul, neg, sub}
use Rattle.linear_algebra.specs.FieldLaws.{order-pos, zero_mul, mul_zero, mul-mod_left, mul_one-mod, sub_self, sub_def, sub_below, neg_below, neg-add, neg_neg, add_neg, add_assoc, zero_add}
use Rattle.linear_algebra.specs.Sums.{sum-zeros, sum-single}
use Rattle.linear_algebra.specs.Rows.{entry, IsRow, IsGrid, list_of, times, IsInSpan}
use Rattle.linear_algebra.specs.Reduced.{leading, pivot, IsReduced}
pub use Rattle.linear_algebra.specs.Reduced.{at_pivots, remainder}
use Rattle.linear_algebra.proofs.Rows.{length-list_of, get_or-list_of, list_of-is, get_or-times, length-times, IsRow-times}
use Rattle.linear_algebra.proofs.Reduced.{HasPivots, HasPivots-reduced, leading_is, at_leading}

-- The coefficient of a row in a combination is the entry of the combination at the pivot of that row.
pub times-at_pivot : (q : Gf) (m n : ℕ) (rows : List (List ℕ)) (c : List ℕ) (i : ℕ) → IsGrid q m n rows → IsReduced n rows → i < length rows
    → get_or (times q n c rows) (pivot rows i) 0 ≡ get_or c i 0 % order q
times-at_pivot q m n rows c i g r h =
    get_or-times q n c rows (pivot rows i) (r.nonzero i h)
    ∙ (sum-single q (length rows) i _ h (λ k l d. ap (mul q (get_or c k 0)) (r.cleared i k h l d) ∙ mul_zero q _)
    ∙ (ap (λ a. mul q (get_or c i 0) a % order q) (r.one i h) ∙ (ap (λ a. a % order q) (mul_one-mod q (get_or c i 0)) ∙ mod-mod (get_or c i 0) (order q))))

zero_coefficient : (q : Gf) (a b : ℕ) → a % order q ≡ 0 → mul q a b ≡ 0
zero_coefficient q a b h = sym (mul-mod_left q a b) ∙ (ap (λ x. mul q x b) h ∙ zero_mul q b)

-- A combination that is zero at the pivots is zero.
pub zero_from_pivots : (q : Gf) (m n : ℕ) (rows : List (List ℕ)) (x : List ℕ) → IsGrid q m n rows → IsReduced n rows → IsInSpan q n rows x
    → ((i : ℕ) → i < length rows → get_or x (pivot rows i) 0 ≡ 0) → (j : ℕ) → get_or x j 0 ≡ 0
zero_from_pivots q m n rows x g r s z j = elim (cases_lt j n) [
  | inl h ↦ sym (ap (λ y. get_or y j 0) s.1) ∙ (get_or-times q n s.0 rows j h
      ∙ sum-zeros q (length rows) _ (λ i l. zero_coefficient q (get_or s.0 i 0) (entry rows i j) (sym (times-at_pivot q m n rows s.0 i g r l) ∙ (ap (λ y. get_or y (pivot rows i) 0) s.1 ∙ z i l))))
  | inr h ↦ sym (ap (λ y. get_or y j 0) s.1) ∙ get_or_past _ j 0 (let e = length-times q n s.0 rows in omega arith)
]

-- the least number below n at which f is not zero
record FirstNonzero (n : ℕ) (f : ℕ → ℕ) : Type 0 where
  place : ℕ
  below : place < n
  nonzero : f place ≢ 0
  before : (k : ℕ) → k < place → f k ≡ 0

first_nonzero : (n : ℕ) (f : ℕ → ℕ) → FirstNonzero n f ⊎ ((k : ℕ) → k < n → f k ≡ 0)
first_nonzero zero f = inr (λ k h. absurd (omega arith))
first_nonzero (suc n) f = elim (first_nonzero n f) [
  | inl p ↦ inl (record { place = p.place; below = (let b = p.below in omega arith); nonzero = p.nonzero; before = p.before })
  | inr z ↦ elim (cases_eq (f n) 0) [
    | inl e ↦ inr (λ k h. elim (cases_lt k n) [ inl l ↦ z k l | inr l ↦ (let same : n ≡ k = omega arith in subst (λ a. f a ≡ 0) same e) ])
    | inr d ↦ inl (record { place = n; below = omega arith; nonzero = d; before = z })
  ]
]

-- the entries of a combination, where the coefficients before row i are zero, and the column stands before the pivot of row i
before_first : (q : Gf) (m n : ℕ) (rows : List (List ℕ)) (c : List ℕ) (i : ℕ) → IsReduced n rows → i < length rows
    → ((k : ℕ) → k < i → get_or c k 0 % order q ≡ 0) → (j : ℕ) → j < pivot rows i → get_or (times q n c rows) j 0 ≡ 0
before_first q m n rows c i r h z j l =
    get_or-times q n c rows j (let w = r.nonzero i h in omega arith)
    ∙ sum-zeros q (length rows) _ (λ k b. elim (cases_lt k i) [
      | inl e ↦ zero_coefficient q (get_or c k 0) (entry rows k j) (z k e)
      | inr e ↦ ap (mul q (get_or c k 0)) (p.before k j b (further_le k b e)) ∙ mul_zero q _
    ])
  where
    p : HasPivots n rows (pivot rows)
    p = HasPivots-reduced n rows r

    further_le : (k : ℕ) → k < length rows → i ≤ k → j < pivot rows k
    further_le k b e = elim (cases_eq i k) [
      | inl same ↦ subst (λ a. j < pivot rows a) same l
      | inr d ↦ (let f = r.further i k (omega arith) b in omega arith)
    ]

-- The first entry of a combination that is not zero stands at a pivot.
pub leading_at_pivot : (q : Gf) (m n : ℕ) (rows : List (List ℕ)) (x : List ℕ) → IsGrid q m n rows → IsReduced n rows → IsInSpan q n rows x
    → leading x < n → (i : ℕ) × (i < length rows) × (pivot rows i ≡ leading x)
leading_at_pivot q m n rows x g r s l = elim (first_nonzero (length rows) (λ i. get_or s.0 i 0 % order q)) [
  | inl p ↦ (
    p.place,
    p.below,
    sym (leading_is x (pivot rows p.place)
        (let w = r.nonzero p.place p.below in let e = ap length s.1 in let e2 = length-times q n s.0 rows in omega arith)
        (λ j b. sym (ap (λ y. get_or y j 0) s.1) ∙ before_first q m n rows s.0 p.place r p.below p.before j b)
        (λ e. p.nonzero (sym (times-at_pivot q m n rows s.0 p.place g r p.below) ∙ (ap (λ y. get_or y (pivot rows p.place) 0) s.1 ∙ e)))),
  )
  | inr z ↦ absurd (at_leading x (let e = ap length s.1 in let e2 = length-times q n s.0 rows in omega arith)
      (zero_from_pivots q m n rows x g r s (λ i k. sym (ap (λ y. get_or y (pivot rows i) 0) s.1) ∙ (times-at_pivot q m n rows s.0 i g r k ∙ z i k)) (leading x)))
]

pub get_or-remainder : (q : Gf) (n : ℕ) (rows : List (List ℕ)) (x : List ℕ) (j : ℕ) → j < n
    → get_or (remainder q n rows x) j 0 ≡ sub q (get_or x j 0) (get_or (times q n (at_pivots rows x) rows) j 0)
unfolding remainder
get_or-remainder q n rows x j h = get_or-list_of n _ j 0 h

pub length-remainder : (q : Gf) (n : ℕ) (rows : List (List ℕ)) (x : List ℕ) → length (remainder q n rows x) ≡ n
unfolding remainder
length-remainder q n rows x = length-list_of n _

pub remainder-small : (q : Gf) (n : ℕ) (rows : List (List ℕ)) (x : List ℕ) (j : ℕ) → get_or (remainder q n rows x) j 0 < order q
remainder-small q n rows x j = elim (cases_lt j n) [
  | inl h ↦ rw (get_or-remainder q n rows x j h) (sub_below q _ _)
  | inr h ↦ rw (get_or_past (remainder q n rows x) j 0 (let e = length-remainder q n rows x in omega arith)) (order-pos q)
]

-- the remainder is zero at the pivots
pub remainder-at_pivot : (q : Gf) (m n : ℕ) (rows : List (List ℕ)) (x : List ℕ) (i : ℕ) → IsGrid q m n rows → IsReduced n rows → IsRow q n x → i < length rows
    → get_or (remainder q n rows x) (pivot rows i) 0 ≡ 0
unfolding at_pivots
remainder-at_pivot q m n rows x i g r w h =
    get_or-remainder q n rows x (pivot rows i) (r.nonzero i h)
    ∙ (ap (sub q (get_or x (pivot rows i) 0)) (times-at_pivot q m n rows (at_pivots rows x) i g r h
    ∙ (ap (λ a. a % order q) (get_or-list_of (length rows) _ i 0 h) ∙ mod-eq_of_lt (w.small (pivot rows i))))
    ∙ sub_self q _)

pub sub_sub : (q : Gf) (a b : ℕ) → sub q a (sub q a b) ≡ b % order q
sub_sub q a b =
    sub_def q a _ ∙ (ap (λ s. add q a (neg q s)) (sub_def q a b) ∙ (ap (add q a) (neg-add q a (neg q b))
    ∙ (sym (add_assoc q a (neg q a) (neg q (neg q b))) ∙ (ap (λ s. add q s (neg q (neg q b))) (add_neg q a)
    ∙ (zero_add q _ (neg_below q _) ∙ neg_neg q b)))))

-- a row and its remainder differ by a combination
pub remainder_differs : (q : Gf) (n : ℕ) (rows : List (List ℕ)) (x : List ℕ)
    → IsInSpan q n rows (list_of n (λ j. sub q (get_or x j 0) (get_or (remainder q n rows x) j 0)))
remainder_differs q n rows x = (
  at_pivots rows x,
  list_of-is n _ (times q n (at_pivots rows x) rows) 0 (length-times q n _ rows) (λ j h.
      sym (ap (sub q (get_or x j 0)) (get_or-remainder q n rows x j h)
      ∙ (sub_sub q (get_or x j 0) (get_or (times q n (at_pivots rows x) rows) j 0) ∙ mod-eq_of_lt ((IsRow-times q n (at_pivots rows x) rows).small j)))),
)
