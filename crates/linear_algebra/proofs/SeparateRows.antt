-- A row outside a row space is told by the functional of the first column of its remainder.
use Rattle.std.proofs.Common.{ℕ, ◌<◌, ◌≡◌, ◌≢◌, inl, inr, List, [], length, get_or, cond, eqb, refl, sym, ap, ◌∙◌, arith, mod-eq_of_lt}
use Rattle.std.proofs.lemmas.Bool.{cases_eq}
use Rattle.std.proofs.lemmas.Bool.Decides.{eqb_tells}
use Rattle.linear_algebra.specs.Field.{Gf, order, add, mul, neg}
use Rattle.linear_algebra.specs.FieldLaws.{add_comm, zero_mul, mul_zero, one_mul, mul_one, mod-mul, add_mul, add_zero, add_neg, sub_def, neg_below, neg_add_self, add_assoc, add_zero_zero}
use Rattle.linear_algebra.specs.Sums.{sum_to, sum-same, sum-single, sum-add, sum_below}
use Rattle.linear_algebra.specs.Rows.{entry, IsRow, IsGrid, times, IsInSpan, SameSpan}
use Rattle.linear_algebra.specs.Reduced.{leading, pivot, at_pivots, remainder, IsReduced}
use Rattle.linear_algebra.specs.Separators.{dot, IsFunctionalAt, IsSeparated}
use Rattle.linear_algebra.proofs.Rows.{length-times, IsRow-times, IsInSpan-row, list_of-is}
use Rattle.linear_algebra.proofs.Reduced.{leading_is}
use Rattle.linear_algebra.proofs.ReducedSpans.{get_or-remainder, length-remainder, remainder-small, remainder-at_pivot}
use Rattle.linear_algebra.proofs.SolveRows.{IsInSpan-sent, pivot_or_none}

-- x is its remainder and a combination of the rows
remainder_back : (q : Gf) (n : ℕ) (form : List (List ℕ)) (x : List ℕ) (j : ℕ) → IsRow q n x → j < n → get_or x j 0 ≡ add q (get_or (remainder q n form x) j 0) (get_or (times q n (at_pivots form x) form) j 0)
remainder_back q n form x j w h =
    let c = get_or (times q n (at_pivots form x) form) j 0 in
    sym (ap (λ y. add q y c) (get_or-remainder q n form x j h ∙ sub_def q (get_or x j 0) c) ∙ add_assoc q (get_or x j 0) (neg q c) c ∙ ap (add q (get_or x j 0)) (neg_add_self q c) ∙ add_zero q _ (w.small j))

-- a row with zero remainder is in the span
pub in_span_of_zero : (q : Gf) (n : ℕ) (form : List (List ℕ)) (x : List ℕ) → IsRow q n x → ((j : ℕ) → j < n → get_or (remainder q n form x) j 0 ≡ 0) → IsInSpan q n form x
in_span_of_zero q n form x w z = (
  at_pivots form x,
  list_of-is n _ _ 0 (length-times q n _ form) (λ j h. refl) ∙ sym (list_of-is n _ x 0 w.count (λ j h.
      remainder_back q n form x j w h ∙ ap (λ y. add q y (get_or (times q n (at_pivots form x) form) j 0)) (z j h) ∙ zero_plus (get_or (times q n (at_pivots form x) form) j 0) ((IsRow-times q n (at_pivots form x) form).small j))),
)
  where
    zero_plus : (a : ℕ) → a < order q → add q 0 a ≡ a
    zero_plus a h = add_comm q 0 a ∙ add_zero q a h

-- the functional on the rows of the reduced form
functional-row : (q : Gf) (r n c : ℕ) (form : List (List ℕ)) (y : List ℕ) (i : ℕ) → IsGrid q r n form → IsReduced n form → IsFunctionalAt q n form c y → c < n → ((i : ℕ) → i < length form → pivot form i ≢ c) → i < length form
    → sum_to q n (λ j. mul q (entry form i j) (get_or y j 0)) ≡ 0
functional-row q r n c form y i g f h hc apart hi =
    sum-same q n _ _ (λ j l. term j l)
    ∙ sum-add q n first second
    ∙ ap (λ a. add q a (sum_to q n second)) (sum-single q n c first hc (λ j l d. elim (eqb_tells j c) [ inl e ↦ absurd (d e.1) | inr e ↦ ap (λ b. cond b (entry form i c) 0) e.0 ]) ∙ mod-eq_of_lt (rw first-at (g.small i c)) ∙ first-at)
    ∙ ap (add q (entry form i c)) (sum-single q n (pivot form i) second (f.nonzero i hi) (λ j l d. elim (eqb_tells j (pivot form i)) [ inl e ↦ absurd (d e.1) | inr e ↦ ap (λ b. cond b (neg q (entry form i c)) 0) e.0 ]) ∙ mod-eq_of_lt (rw second-at (neg_below q _)) ∙ second-at)
    ∙ add_neg q (entry form i c)
  where
    first : ℕ → ℕ
    first j = cond (eqb j c) (entry form i c) 0

    second : ℕ → ℕ
    second j = cond (eqb j (pivot form i)) (neg q (entry form i c)) 0

    first-at : first c ≡ entry form i c
    first-at = elim (eqb_tells c c) [ inl e ↦ ap (λ b. cond b (entry form i c) 0) e.0 | inr e ↦ absurd (e.1 refl) ]

    second-at : second (pivot form i) ≡ neg q (entry form i c)
    second-at = elim (eqb_tells (pivot form i) (pivot form i)) [ inl e ↦ ap (λ b. cond b (neg q (entry form i c)) 0) e.0 | inr e ↦ absurd (e.1 refl) ]

    none : (j : ℕ) → j ≢ c → j ≢ pivot form i → add q (first j) (second j) ≡ 0
    none j d e = elim (eqb_tells j c) [
      | inl u ↦ absurd (d u.1)
      | inr u ↦ elim (eqb_tells j (pivot form i)) [
        | inl v ↦ absurd (e v.1)
        | inr v ↦ ap (λ b. add q (cond b (entry form i c) 0) (second j)) u.0 ∙ ap (λ b. add q 0 (cond b (neg q (entry form i c)) 0)) v.0 ∙ add_zero_zero q
      ]
    ]

    term : (j : ℕ) → j < n → mul q (entry form i j) (get_or y j 0) ≡ add q (first j) (second j)
    term j l = elim (cases_eq j c) [
      | inl e ↦
          ap (λ j. mul q (entry form i j) (get_or y j 0)) e ∙ ap (mul q (entry form i c)) h.at_column ∙ mul_one q _ (g.small i c)
          ∙ sym (ap (λ j. add q (first j) (second j)) e ∙ ap (λ a. add q a (second c)) first-at ∙ ap (add q (entry form i c)) (elim (eqb_tells c (pivot form i)) [ inl u ↦ absurd (apart i hi (sym u.1)) | inr u ↦ ap (λ b. cond b (neg q (entry form i c)) 0) u.0 ]) ∙ add_zero q _ (g.small i c))
      | inr d ↦ elim (cases_eq j (pivot form i)) [
        | inl e ↦
            ap (λ j. mul q (entry form i j) (get_or y j 0)) e ∙ ap (λ a. mul q a (get_or y (pivot form i) 0)) (f.one i hi) ∙ ap (mul q 1) (h.at_pivot i hi) ∙ one_mul q _ (neg_below q _)
            ∙ sym (ap (λ j. add q (first j) (second j)) e ∙ ap (add q (first (pivot form i))) second-at ∙ ap (λ a. add q a (neg q (entry form i c))) (elim (eqb_tells (pivot form i) c) [ inl u ↦ absurd (apart i hi u.1) | inr u ↦ ap (λ b. cond b (entry form i c) 0) u.0 ]) ∙ add_comm q 0 _ ∙ add_zero q _ (neg_below q _))
        | inr e ↦ elim (pivot_or_none (length form) (pivot form) j) [
          | inl p ↦ ap (λ a. mul q a (get_or y j 0)) (ap (entry form i) (sym p.2) ∙ f.cleared p.0 i p.1 hi (λ s. e (sym p.2 ∙ ap (pivot form) (sym s)))) ∙ zero_mul q _ ∙ sym (none j d e)
          | inr p ↦ ap (mul q (entry form i j)) (h.elsewhere j l d p) ∙ mul_zero q _ ∙ sym (none j d e)
        ]
      ]
    ]

-- the functional is zero on the span of the form
pub functional-span : (q : Gf) (r n c : ℕ) (form : List (List ℕ)) (y x : List ℕ) → IsGrid q r n form → IsReduced n form → IsFunctionalAt q n form c y → c < n → ((i : ℕ) → i < length form → pivot form i ≢ c)
    → IsInSpan q n form x → dot q n x y ≡ 0
unfolding dot
functional-span q r n c form y x g f h hc apart s = IsInSpan-sent q n form (λ j. get_or y j 0) (λ i l. functional-row q r n c form y i g f h hc apart l) x s

-- and on x it is the entry of the remainder
functional-at : (q : Gf) (r n c : ℕ) (form : List (List ℕ)) (y x : List ℕ) → IsGrid q r n form → IsReduced n form → IsFunctionalAt q n form c y → c < n → ((i : ℕ) → i < length form → pivot form i ≢ c) → IsRow q n x
    → dot q n x y ≡ get_or (remainder q n form x) c 0
unfolding dot
functional-at q r n c form y x g f h hc apart w =
    sum-same q n _ _ (λ j l. ap (λ a. mul q a (get_or y j 0)) (remainder_back q n form x j w l) ∙ add_mul q _ _ _)
    ∙ sum-add q n _ _
    ∙ ap (add q (sum_to q n (λ j. mul q (get_or (remainder q n form x) j 0) (get_or y j 0)))) (IsInSpan-sent q n form (λ j. get_or y j 0) (λ i l. functional-row q r n c form y i g f h hc apart l) (times q n (at_pivots form x) form) (at_pivots form x, refl))
    ∙ add_zero q _ (sum_below q n _)
    ∙ sum-single q n c _ hc (λ j l d. elim (pivot_or_none (length form) (pivot form) j) [
      | inl p ↦ ap (λ a. mul q a (get_or y j 0)) (ap (λ j. get_or (remainder q n form x) j 0) (sym p.2) ∙ remainder-at_pivot q r n form x p.0 g f w p.1) ∙ zero_mul q _
      | inr p ↦ ap (mul q (get_or (remainder q n form x) j 0)) (h.elsewhere j l d p) ∙ mul_zero q _
    ])
    ∙ mod-mul q _ _ ∙ ap (mul q (get_or (remainder q n form x) c 0)) h.at_column ∙ mul_one q _ (remainder-small q n form x c)

-- the pivots are not the column of the remainder
pub pivot_not_column : (q : Gf) (r n c : ℕ) (form : List (List ℕ)) (x : List ℕ) → IsGrid q r n form → IsReduced n form → IsRow q n x → get_or (remainder q n form x) c 0 ≢ 0 → (i : ℕ) → i < length form → pivot form i ≢ c
pivot_not_column q r n c form x g f w ne i h e = ne (ap (λ j. get_or (remainder q n form x) j 0) (sym e) ∙ remainder-at_pivot q r n form x i g f w h)

pub IsSeparated-by : (q : Gf) (m r n c : ℕ) (rows form : List (List ℕ)) (x y : List ℕ) → IsGrid q m n rows → IsGrid q r n form → IsReduced n form → SameSpan q n rows form → IsRow q n x → c < n
    → ((j : ℕ) → j < c → get_or (remainder q n form x) j 0 ≡ 0) → get_or (remainder q n form x) c 0 ≢ 0 → IsFunctionalAt q n form c y → IsSeparated q n rows x y
unfolding dot
IsSeparated-by q m r n c rows form x y gr g f s w hc before ne h =
    let at : leading (remainder q n form x) ≡ c = leading_is (remainder q n form x) c (let l = length-remainder q n form x in omega arith) before ne in
    let apart = pivot_not_column q r n c form x g f w ne in
    let value = functional-at q r n c form y x g f h hc apart w in
    record {
      form = form;
      grid = rw g.count g;
      reduced = f;
      span = s;
      column = rw at hc;
      functional = rw at h;
      outside = λ k. ne (sym value ∙ functional-span q r n c form y x g f h hc apart (s.forth x k));
      zero = λ i l. functional-span q r n c form y (get_or rows i []) g f h hc apart (s.forth _ (IsInSpan-row q m n rows i gr (let e = gr.count in omega arith)));
      nonzero = λ z. ne (sym value ∙ z);
    }
