-- Reduced row form: how to show it, and what it gives.
use Rattle.std.proofs.Common.{ℕ, zero, suc, ◌<◌, ◌≤◌, ◌≡◌, ◌≢◌, inl, inr, List, [], ◌∷◌, length, map, get_or, take, cond, sym, ap, ◌∙◌, arith}
use Rattle.std.proofs.lemmas.List.{get_or-take, length-take-le, get_or_past, get_or-map, length-map, ext_get_or}
use Rattle.std.proofs.lemmas.Bool.{cases_lt}
use Rattle.std.proofs.lemmas.Bool.Decides.{eqb_tells}
use Rattle.linear_algebra.specs.Field.{Gf}
use Rattle.linear_algebra.specs.FieldLaws.{order-pos, zero_mul}
use Rattle.linear_algebra.specs.Sums.{sum-zeros}
use Rattle.linear_algebra.specs.Rows.{entry, IsGrid, zeros, IsInSpan, SameSpan}
use Rattle.linear_algebra.specs.Reduced.{leading, pivot, IsReduced, pivots_of, ReducesTo}
use Rattle.linear_algebra.proofs.Rows.{entry_past, length-list_of, get_or-list_of, row-entry, times-is, SameSpan-from_rows, IsInSpan-row}

-- the first nonzero entry
pub leading_is : (x : List ℕ) (p : ℕ) → p < length x → ((j : ℕ) → j < p → get_or x j 0 ≡ 0) → get_or x p 0 ≢ 0 → leading x ≡ p
unfolding leading
leading_is [] p h b n = absurd (omega arith)
leading_is (a ∷ x) zero h b n = elim (eqb_tells a 0) [ inl e ↦ absurd (n e.1) | inr e ↦ ap (λ t. cond t (suc (leading x)) 0) e.0 ]
leading_is (a ∷ x) (suc p) h b n =
    elim (eqb_tells a 0) [
      | inl e ↦ ap (λ t. cond t (suc (leading x)) 0) e.0 ∙ ap suc (leading_is x p (omega arith) (λ j l. b (suc j) (omega arith)) n)
      | inr e ↦ absurd (e.1 (b 0 (omega arith)))
    ]

-- the entries before it are zero
pub before_leading : (x : List ℕ) (j : ℕ) → j < leading x → get_or x j 0 ≡ 0
unfolding leading
before_leading [] j h = absurd (omega arith)
before_leading (a ∷ x) j h =
    elim (eqb_tells a 0) [
      | inl e ↦ before_more (before_leading x) j e.1 (let k : leading (a ∷ x) ≡ suc (leading x) = ap (λ t. cond t (suc (leading x)) 0) e.0 in omega arith)
      | inr e ↦ let k : leading (a ∷ x) ≡ 0 = ap (λ t. cond t (suc (leading x)) 0) e.0 in absurd (omega arith)
    ]
  where
    before_more : ((i : ℕ) → i < leading x → get_or x i 0 ≡ 0) → (j : ℕ) → a ≡ 0 → j < suc (leading x) → get_or (a ∷ x) j 0 ≡ 0
    before_more f zero e h = e
    before_more f (suc j) e h = f j (omega arith)

-- and it is not
pub at_leading : (x : List ℕ) → leading x < length x → get_or x (leading x) 0 ≢ 0
unfolding leading
at_leading [] h = absurd (omega arith)
at_leading (a ∷ x) h =
    elim (eqb_tells a 0) [
      | inl e ↦
          let k : leading (a ∷ x) ≡ suc (leading x) = ap (λ t. cond t (suc (leading x)) 0) e.0 in
          let n = at_leading x (omega arith) in
          λ z. n (sym (ap (λ i. get_or (a ∷ x) i 0) k) ∙ z)
      | inr e ↦
          let k : leading (a ∷ x) ≡ 0 = ap (λ t. cond t (suc (leading x)) 0) e.0 in
          λ z. e.1 (sym (ap (λ i. get_or (a ∷ x) i 0) k) ∙ z)
    ]

pub leading_le : (x : List ℕ) → leading x ≤ length x
unfolding leading
leading_le [] = omega arith
leading_le (a ∷ x) = elim (eqb_tells a 0) [
  | inl e ↦ let k : leading (a ∷ x) ≡ suc (leading x) = ap (λ t. cond t (suc (leading x)) 0) e.0 in omega (arith, leading_le x)
  | inr e ↦ let k : leading (a ∷ x) ≡ 0 = ap (λ t. cond t (suc (leading x)) 0) e.0 in omega arith
]

pub leading_all_zero : (x : List ℕ) → ((j : ℕ) → j < length x → get_or x j 0 ≡ 0) → length x ≡ leading x
leading_all_zero x h = elim (cases_lt (leading x) (length x)) [
  | inl l ↦ absurd (at_leading x l (h (leading x) l))
  | inr l ↦ let k = leading_le x in omega arith
]

-- a row is zero from its first place on where its leading place is past the end
pub zero_from_leading : (x : List ℕ) → length x ≤ leading x → (j : ℕ) → get_or x j 0 ≡ 0
zero_from_leading x h j = elim (cases_lt j (length x)) [ inl l ↦ before_leading x j (omega arith) | inr l ↦ get_or_past x j 0 l ]

-- Rows with given pivot places are in reduced row form.
pub record HasPivots (n : ℕ) (rows : List (List ℕ)) (p : ℕ → ℕ) : Type 0 where
  pub inside : (i : ℕ) → i < length rows → p i < n
  pub one : (i : ℕ) → i < length rows → entry rows i (p i) ≡ 1
  pub before : (i j : ℕ) → i < length rows → j < p i → entry rows i j ≡ 0
  pub further : (i k : ℕ) → i < k → k < length rows → p i < p k
  pub cleared : (i k : ℕ) → i < length rows → k < length rows → k ≢ i → entry rows k (p i) ≡ 0

pub pivot-is : (q : Gf) (m n : ℕ) (rows : List (List ℕ)) (p : ℕ → ℕ) → IsGrid q m n rows → HasPivots n rows p → (i : ℕ) → i < length rows → pivot rows i ≡ p i
pivot-is q m n rows p g h i l =
    let w = g.width i (let c = g.count in omega arith) in
    let k = h.inside i l in
    leading_is (get_or rows i []) (p i) (omega arith) (λ j b. row-entry rows i j ∙ h.before i j l b)
    (λ z. let o : 1 ≡ 0 = sym (h.one i l) ∙ sym (row-entry rows i (p i)) ∙ z in absurd (omega arith))

pub IsReduced-from_pivots : (q : Gf) (m n : ℕ) (rows : List (List ℕ)) (p : ℕ → ℕ) → IsGrid q m n rows → HasPivots n rows p → IsReduced n rows
IsReduced-from_pivots q m n rows p g h = record {
  nonzero = λ i l. rw (at i l) (h.inside i l);
  one = λ i l. rw (at i l) (h.one i l);
  further = λ i k l r. rw (at i (omega arith), at k r) (h.further i k l r);
  cleared = λ i k l r n. rw (at i l) (h.cleared i k l r n);
}
  where
    at : (i : ℕ) → i < length rows → pivot rows i ≡ p i
    at i l = pivot-is q m n rows p g h i l

pub HasPivots-reduced : (n : ℕ) (rows : List (List ℕ)) → IsReduced n rows → HasPivots n rows (pivot rows)
HasPivots-reduced n rows h = record {
  inside = h.nonzero;
  one = h.one;
  before = λ i j l b. sym (row-entry rows i j) ∙ before_leading (get_or rows i []) j b;
  further = h.further;
  cleared = h.cleared;
}

pub pivots_of-is : (q : Gf) (m n : ℕ) (rows : List (List ℕ)) (p : ℕ → ℕ) (ps : List ℕ) → IsGrid q m n rows → HasPivots n rows p → length ps ≡ length rows
    → ((i : ℕ) → i < length rows → get_or ps i 0 ≡ p i) → ps ≡ pivots_of rows
unfolding pivots_of
pivots_of-is q m n rows p ps g h e at =
    ext_get_or 0 ps (map leading rows) (e ∙ sym (length-map rows leading))
    (λ i l. let k : i < length rows = omega arith in at i k ∙ sym (get_or-map leading rows i [] 0 k ∙ pivot-is q m n rows p g h i k))

-- the first rows of a matrix
pub entry-take : (r : ℕ) (rows : List (List ℕ)) (i j : ℕ) → i < r → entry (take r rows) i j ≡ entry rows i j
unfolding entry
entry-take r rows i j h = ap (λ x. get_or x j 0) (get_or-take r rows i [] h)

pub IsGrid-take : (q : Gf) (m n r : ℕ) (rows : List (List ℕ)) → IsGrid q m n rows → r ≤ m → IsGrid q r n (take r rows)
IsGrid-take q m n r rows g h = record {
  count = length-take-le r rows (let c = g.count in omega arith);
  width = λ i l. ap length (get_or-take r rows i [] l) ∙ g.width i (omega arith);
  small = λ i j. elim (cases_lt i r) [
    | inl l ↦ rw (entry-take r rows i j l) (g.small i j)
    | inr l ↦ rw (entry_past (take r rows) i j (let c = length-take-le r rows (let c = g.count in omega arith) in omega arith)) (order-pos q)
  ];
}

-- the zero row is in each span
pub IsInSpan-zeros : (q : Gf) (n : ℕ) (rows : List (List ℕ)) → IsInSpan q n rows (zeros n)
unfolding zeros
IsInSpan-zeros q n rows = ([], times-is q n [] rows _ (length-list_of n _) (λ j l. sum-zeros q (length rows) _ (λ i k. zero_mul q (entry rows i j)) ∙ sym (get_or-list_of n _ j 0 l)))

-- zero rows at the end add nothing to the span
pub SameSpan-take : (q : Gf) (m n r : ℕ) (rows : List (List ℕ)) → IsGrid q m n rows → r ≤ m → ((i : ℕ) → r ≤ i → i < m → get_or rows i [] ≡ zeros n) → SameSpan q n rows (take r rows)
SameSpan-take q m n r rows g h z =
    SameSpan-from_rows q n rows (take r rows)
    (λ i l. elim (cases_lt i r) [
      | inl k ↦ let s = IsInSpan-row q r n (take r rows) i (IsGrid-take q m n r rows g h) k in (s.0, s.1 ∙ get_or-take r rows i [] k)
      | inr k ↦ let s = IsInSpan-zeros q n (take r rows) in (s.0, s.1 ∙ sym (z i k (let c = g.count in omega arith)))
    ])
    (λ i l. let e = length-take-le r rows (let c = g.count in omega arith) in
    let k : i < r = omega arith in
    let s = IsInSpan-row q m n rows i g (omega arith) in (s.0, s.1 ∙ sym (get_or-take r rows i [] k)))

-- the pivot columns that elimination tells
pub pivot-column : (q : Gf) (n : ℕ) (old new : List (List ℕ)) (pivots : List ℕ) (rank i : ℕ) → ReducesTo q n old new pivots rank → i < rank → get_or pivots i 0 ≡ pivot (take rank new) i
unfolding pivots_of
pivot-column q n old new pivots rank i h l =
    sym (get_or-take rank pivots i 0 l) ∙ ap (λ p. get_or p i 0) h.columns
    ∙ get_or-map leading (take rank new) i [] 0 (let e = length-take-le rank new h.fits in omega arith)
