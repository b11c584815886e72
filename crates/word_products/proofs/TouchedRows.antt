-- Rows beside a list of the places at which they may differ from zero.
use Rattle.std.proofs.Common.{ℕ, ◌≡◌, ◌≢◌, ◌<◌, ◌≤◌, ◌+◌, inl, inr, List, [], length, get_or, set, refl, sym, ap, ◌∙◌, subst, arith}
use Rattle.std.specs.Prelude.{All}
use Rattle.std.proofs.lemmas.Bool.{cases_lt, cases_eq}
use Rattle.std.proofs.lemmas.List.{get_or-set_same, get_or-set_other, length-set, get_or_default}
use Rattle.std.proofs.lemmas.List.Elements.{All-nil}
use Rattle.linear_algebra.specs.Field.{Gf, order, add}
use Rattle.linear_algebra.specs.FieldLaws.{order-pos, one-lt-order, zero_add}
use Rattle.linear_algebra.specs.Rows.{IsRow, zeros, unit}
use Rattle.linear_algebra.proofs.Rows.{get_or-list_of, get_or-list_of_past, list_of-is}
use Rattle.word_products.specs.declared.sparse.Entry.{Entry}
use Rattle.word_products.specs.SparseRows.{IsEntry, TouchedView, HoldsTouched, IsRowOver}
use Rattle.word_products.proofs.TermSums.{IsRow-zeros, zeros_are, unit-set}

-- ---- one coefficient of a row

pub set-here : (row : List ℕ) (p j v : ℕ) → j ≡ p → p < length row → get_or (set row p v) j 0 ≡ v
set-here row p j v e l = ap (λ k. get_or (set row p v) k 0) e ∙ get_or-set_same row p v 0 l

pub set-other : (row : List ℕ) (p j v : ℕ) → j ≢ p → get_or (set row p v) j 0 ≡ get_or row j 0
set-other row p j v d = get_or-set_other row p j v 0 d

pub IsRow-set : (q : Gf) (n p v : ℕ) (row : List ℕ) → IsRow q n row → p < n → v < order q → IsRow q n (set row p v)
IsRow-set q n p v row r l s = record {
  count = length-set row p v ∙ r.count;
  small = λ j. elim (cases_eq j p) [
    | inl e ↦ subst (λ x. x < order q) (sym (set-here row p j v e (subst (λ m. p < m) (sym r.count) l))) s
    | inr d ↦ subst (λ x. x < order q) (sym (set-other row p j v d)) (r.small j)
  ];
}

pub zeros-at : (n j : ℕ) → get_or (zeros n) j 0 ≡ 0
unfolding zeros
zeros-at n j = elim (cases_lt j n) [
  | inl l ↦ get_or-list_of n (λ _. 0) j 0 l
  | inr l ↦ get_or-list_of_past n (λ _. 0) j 0 l
]

pub zero_row : (n : ℕ) (row : List ℕ) → length row ≡ n → ((j : ℕ) → j < n → get_or row j 0 ≡ 0) → row ≡ zeros n
unfolding zeros
zero_row n row e z = list_of-is n (λ _. 0) row 0 e z

-- ---- the list of places

pub touched-zeros : (q : Gf) (n : ℕ) (row places : List ℕ) → row ≡ zeros n → places ≡ [] → HoldsTouched q n row places
touched-zeros q n row places e none = record {
  row_is = subst (IsRow q n) (sym e) (IsRow-zeros q n);
  inside = subst (All (λ p. p < n)) (sym none) (All-nil (λ p. p < n));
  listed = λ j d. absurd (d (ap (λ x. get_or x j 0) e ∙ zeros-at n j));
}

module _ (q : Gf) (n : ℕ) (row places : List ℕ) (h : HoldsTouched q n row places) where
  -- no place is listed
  pub touched-none : length places ≡ 0 → row ≡ zeros n
  touched-none z = zero_row n row h.row_is.count (λ j l. elim (cases_eq (get_or row j 0) 0) [
    | inl e ↦ e
    | inr d ↦ absurd (let m = h.listed j d in omega (arith, m.1, z))
  ])

  -- a place that is listed already
  pub touched-over : (p : ℕ) → p < n → (v : ℕ) → v < order q → get_or row p 0 ≢ 0 → HoldsTouched q n (set row p v) places
  touched-over p l v s z = record {
    row_is = IsRow-set q n p v row h.row_is l s;
    inside = h.inside;
    listed = λ j d. elim (cases_eq j p) [
      | inl e ↦ h.listed j (λ i. z (sym (ap (λ k. get_or row k 0) e) ∙ i))
      | inr o ↦ h.listed j (λ i. d (set-other row p j v o ∙ i))
    ];
  }

pub touched-same : (q : Gf) (n : ℕ) (row places row' places' : List ℕ) → HoldsTouched q n row places → row' ≡ row → places' ≡ places → HoldsTouched q n row' places'
touched-same q n row places row' places' h e i = subst (λ x. HoldsTouched q n x places') (sym e) (subst (HoldsTouched q n row) (sym i) h)

pub touched-inside : (q : Gf) (n : ℕ) (row places : List ℕ) → HoldsTouched q n row places → All (λ p. p < length row) places
touched-inside q n row places h = λ k d l. subst (λ m. get_or places k d < m) (sym h.row_is.count) (h.inside k d l)

-- one added to the zero row
pub unit-added : (q : Gf) (n p : ℕ) (row new : List ℕ) → row ≡ zeros n → p < n → new ≡ set row p (add q (get_or row p 0) 1) → new ≡ unit n p
unit-added q n p row new e l i = i ∙ ap (λ x. set x p (add q (get_or x p 0) 1)) e
    ∙ ap (set (zeros n) p) (ap (λ x. add q x 1) (zeros-at n p) ∙ zero_add q 1 (one-lt-order q)) ∙ ap (λ x. set x p 1) (sym (zeros_are n)) ∙ unit-set n p l

-- ---- the first k listed places are made zero

pub record IsCleared (q : Gf) (n : ℕ) (places row : List ℕ) (k : ℕ) : Type 0 where
  pub row_is : IsRow q n row
  pub left : (j : ℕ) → get_or row j 0 ≢ 0 → (m : ℕ) × (k ≤ m) × (m < length places) × (get_or places m 0 ≡ j)

pub cleared-none : (q : Gf) (n : ℕ) (places row : List ℕ) → HoldsTouched q n row places → IsCleared q n places row 0
cleared-none q n places row h = record {
  row_is = h.row_is;
  left = λ j d. let m = h.listed j d in (m.0, omega arith, m.1, get_or_default places m.0 0 j m.1 ∙ m.2);
}

pub cleared-more : (q : Gf) (n : ℕ) (places row : List ℕ) (k p : ℕ) → IsCleared q n places row k → p ≡ get_or places k 0 → p < n → IsCleared q n places (set row p 0) (k + 1)
cleared-more q n places row k p c e l = record {
  row_is = IsRow-set q n p 0 row c.row_is l (order-pos q);
  left = λ j d. elim (cases_eq j p) [
    | inl s ↦ absurd (d (set-here row p j 0 s (subst (λ m. p < m) (sym c.row_is.count) l)))
    | inr o ↦ later j o (c.left j (λ z. d (set-other row p j 0 o ∙ z)))
  ];
}
  where
    later : (j : ℕ) → j ≢ p → (m : ℕ) × (k ≤ m) × (m < length places) × (get_or places m 0 ≡ j) → (m : ℕ) × (k + 1 ≤ m) × (m < length places) × (get_or places m 0 ≡ j)
    later j o m = elim (cases_eq m.0 k) [
      | inl s ↦ absurd (o (sym m.3 ∙ ap (λ i. get_or places i 0) s ∙ sym e))
      | inr b ↦ (m.0, omega (arith, m.1, b), m.2, m.3)
    ]

pub cleared-all : (q : Gf) (n : ℕ) (places row : List ℕ) (k : ℕ) → IsCleared q n places row k → length places ≤ k → row ≡ zeros n
cleared-all q n places row k c l = zero_row n row c.row_is.count (λ j b. elim (cases_eq (get_or row j 0) 0) [
  | inl e ↦ e
  | inr d ↦ absurd (let m = c.left j d in omega (arith, m.1, m.2, l))
])

-- ---- rows of one width over one field

pub over-then : (q : Gf) (n : ℕ) (old new : TouchedView) → IsRowOver q n old → IsRowOver old.field old.width new → IsRowOver q n new
over-then q n old new a b = record {
  field_is = b.field_is ∙ a.field_is;
  width_is = b.width_is ∙ a.width_is;
  row_is = subst (λ p. IsRow p n new.row) a.field_is (subst (λ m. IsRow old.field m new.row) a.width_is b.row_is);
}

-- a row whose fields are read
pub over-inside : (q : Gf) (n : ℕ) (row places : List ℕ) (t : TouchedView) → HoldsTouched q n row places → ◌≡◌ {A = TouchedView} (record { field = q; width = n; row = row; listed = length places }) t
    → IsRowOver t.field t.width t
over-inside q n row places t h e = subst (λ (x : TouchedView). IsRowOver x.field x.width x) e (record { field_is = refl; width_is = refl; row_is = h.row_is })

-- one whose fields are written
pub over-written : (q : Gf) (n : ℕ) (row places : List ℕ) (old : TouchedView) → HoldsTouched q n row places → q ≡ old.field → n ≡ old.width
    → IsRowOver old.field old.width (record { field = q; width = n; row = row; listed = length places })
over-written q n row places old h e w = record {
  field_is = e;
  width_is = w;
  row_is = subst (λ p. IsRow p old.width row) e (subst (λ m. IsRow q m row) w h.row_is);
}

-- a row that is made
pub over-new : (q : Gf) (n m : ℕ) (t : TouchedView) → t ≡ record { field = q; width = n; row = zeros n; listed = m } → IsRowOver q n t
over-new q n m t e = subst (IsRowOver q n) (sym e) (record { field_is = refl; width_is = refl; row_is = IsRow-zeros q n })

-- an entry that is taken out
pub taken-entry : (q : Gf) (n : ℕ) (old : TouchedView) (e : Entry) → IsRowOver q n old → IsEntry old.field old.width e → IsEntry q n e
taken-entry q n old e a b = record {
  small = subst (λ (p : Gf). e.coef < order p) a.field_is b.small;
  inside = subst (λ m. e.word < m) a.width_is b.inside;
}
