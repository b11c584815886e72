-- Lists of rows and matrices: each reading undoes the other, and products, stacks, transposes and spans correspond.
use Rattle.std.proofs.Common.{ℕ, ◌+◌, ◌-◌, ◌%◌, ◌<◌, ◌≤◌, ◌≡◌, List, [], ◌++◌, length, get_or, inl, inr, sym, ap, ap₂, ◌∙◌, arith, subst, mod-eq_of_lt, cond, eqb, length-append}
use Rattle.std.proofs.lemmas.Bool.{cases_lt}
use Rattle.std.proofs.lemmas.List.{get_or_past, ext_get_or, get_or-append_right}
use Rattle.std.proofs.Math.ListN.{get_or-append}
use Rattle.linear_algebra.proofs.Blocks.{join_cases}
use Rattle.linear_algebra.proofs.MatrixLaws.{one-at}
use mathlib.Core.Path.{fun_ext}
use Rattle.linear_algebra.specs.Field.{Gf, order, mul}
use Rattle.linear_algebra.specs.FieldLaws.{order-pos, mul-mod_left}
use Rattle.linear_algebra.specs.Sums.{sum_to, sum-same, sum_below}
use Rattle.linear_algebra.specs.Matrix.{Mat, Row, Mat-eq, Mat-eq_below, delta, delta_below, join, join_both, one, ◌·◌, transpose, stack}
use Rattle.linear_algebra.specs.Parts.{row}
use Rattle.linear_algebra.specs.Rank.{IsInSpan}
use Rattle.linear_algebra.specs.Rows.{list_of, entry, IsRow, IsGrid, unit, identity, times, product, transposed, SameSpan, IsInSpan as IsListInSpan}
use Rattle.linear_algebra.specs.Typed.{as_mat, as_row, grid_of, list_of_row}
use Rattle.linear_algebra.proofs.PartsLaws.{made-at, Row-eq, row-at}
use Rattle.linear_algebra.proofs.Solving.{in_span_by_rows, in_span_trans}
use Rattle.linear_algebra.proofs.Rows.{length-list_of, get_or-list_of, get_or-list_of_past, entry-list_of, entry_past, rows_same, length-times, get_or-times, IsRow-times, length-product, row-product, entry-product, IsInSpan-row}

-- Entries.
pub entry_right : (q : Gf) (m n : ℕ) (rows : List (List ℕ)) → IsGrid q m n rows → (i j : ℕ) → n ≤ j → entry rows i j ≡ 0
unfolding entry
entry_right q m n rows g i j h = elim (cases_lt i m) [
  | inl l ↦ let w = g.width i l in get_or_past (get_or rows i []) j 0 (omega arith)
  | inr l ↦ entry_past rows i j (let c = g.count in omega arith)
]

pub as_mat-at : (q : Gf) (m n : ℕ) (rows : List (List ℕ)) (i j : ℕ) → i < m → j < n → (as_mat q m n rows).at i j ≡ entry rows i j % order q
unfolding as_mat
as_mat-at q m n rows i j h k = made-at q m n (entry rows) i j h k

pub as_mat-entry : (q : Gf) (m n : ℕ) (rows : List (List ℕ)) → IsGrid q m n rows → (i j : ℕ) → (as_mat q m n rows).at i j ≡ entry rows i j
as_mat-entry q m n rows g i j = elim (cases_lt i m) [
  | inl h ↦ elim (cases_lt j n) [
    | inl k ↦ as_mat-at q m n rows i j h k ∙ mod-eq_of_lt (g.small i j)
    | inr k ↦ (as_mat q m n rows).fits.right i j k ∙ sym (entry_right q m n rows g i j k)
  ]
  | inr h ↦ (as_mat q m n rows).fits.below i j h ∙ sym (entry_past rows i j (let c = g.count in omega arith))
]

pub as_row-at : (q : Gf) (n : ℕ) (x : List ℕ) (j : ℕ) → j < n → (as_row q n x).at 0 j ≡ get_or x j 0 % order q
unfolding as_row
as_row-at q n x j k = made-at q 1 n (λ i j. get_or x j 0) 0 j (omega arith) k

pub as_row-entry : (q : Gf) (n : ℕ) (x : List ℕ) → IsRow q n x → (j : ℕ) → (as_row q n x).at 0 j ≡ get_or x j 0
as_row-entry q n x r j = elim (cases_lt j n) [
  | inl k ↦ as_row-at q n x j k ∙ mod-eq_of_lt (r.small j)
  | inr k ↦ (as_row q n x).fits.right 0 j k ∙ sym (get_or_past x j 0 (let c = r.count in omega arith))
]

-- Each reading undoes the other.
module _ {q : Gf} {m n : ℕ} (a : Mat q m n) where
  pub entry-grid_of : (i j : ℕ) → entry (grid_of a) i j ≡ a.at i j
  unfolding grid_of entry
  entry-grid_of i j = elim (cases_lt i m) [
    | inl h ↦ elim (cases_lt j n) [
      | inl k ↦ entry-list_of m n a.at i j h k
      | inr k ↦ ap (λ r. get_or r j 0) (get_or-list_of m (λ i. list_of n (a.at i)) i [] h) ∙ get_or-list_of_past n (a.at i) j 0 k ∙ sym (a.fits.right i j k)
    ]
    | inr h ↦ ap (λ r. get_or r j 0) (get_or-list_of_past m (λ i. list_of n (a.at i)) i [] h) ∙ sym (a.fits.below i j h)
  ]

  pub IsGrid-grid_of : IsGrid q m n (grid_of a)
  unfolding grid_of
  IsGrid-grid_of = record {
    count = length-list_of m _;
    width = λ i h. ap length (get_or-list_of m (λ i. list_of n (a.at i)) i [] h) ∙ length-list_of n (a.at i);
    small = λ i j. subst (λ x. x < order q) (sym (entry-grid_of i j)) (a.fits.small i j);
  }

  pub as_mat-grid_of : as_mat q m n (grid_of a) ≡ a
  as_mat-grid_of = Mat-eq _ _ (λ i j. as_mat-entry q m n (grid_of a) IsGrid-grid_of i j ∙ entry-grid_of i j)

pub grid_of-as_mat : (q : Gf) (m n : ℕ) (rows : List (List ℕ)) → IsGrid q m n rows → grid_of (as_mat q m n rows) ≡ rows
grid_of-as_mat q m n rows g =
    let h = IsGrid-grid_of (as_mat q m n rows) in
    rows_same m n _ rows h.count g.count h.width g.width (λ i j k l. entry-grid_of (as_mat q m n rows) i j ∙ as_mat-entry q m n rows g i j)

module _ {q : Gf} {n : ℕ} (x : Row q n) where
  pub get_or-list_of_row : (j : ℕ) → get_or (list_of_row x) j 0 ≡ x.at 0 j
  unfolding list_of_row
  get_or-list_of_row j = elim (cases_lt j n) [ inl k ↦ get_or-list_of n (x.at 0) j 0 k | inr k ↦ get_or-list_of_past n (x.at 0) j 0 k ∙ sym (x.fits.right 0 j k) ]

  pub IsRow-list_of_row : IsRow q n (list_of_row x)
  unfolding list_of_row
  IsRow-list_of_row = record { count = length-list_of n _; small = λ j. subst (λ y. y < order q) (sym (get_or-list_of_row j)) (x.fits.small 0 j) }

  pub as_row-list_of_row : as_row q n (list_of_row x) ≡ x
  as_row-list_of_row = Row-eq _ _ (λ j h. as_row-entry q n (list_of_row x) IsRow-list_of_row j ∙ get_or-list_of_row j)

pub list_of_row-as_row : (q : Gf) (n : ℕ) (x : List ℕ) → IsRow q n x → list_of_row (as_row q n x) ≡ x
list_of_row-as_row q n x r =
    let h = IsRow-list_of_row (as_row q n x) in
    ext_get_or 0 _ x (h.count ∙ sym r.count) (λ j l. get_or-list_of_row (as_row q n x) j ∙ as_row-entry q n x r j)

pub as_row-injective : (q : Gf) (n : ℕ) (x y : List ℕ) → IsRow q n x → IsRow q n y → as_row q n x ≡ as_row q n y → x ≡ y
as_row-injective q n x y r s e = sym (list_of_row-as_row q n x r) ∙ ap list_of_row e ∙ list_of_row-as_row q n y s

-- a row of a list of rows
pub row-as_mat : (q : Gf) (m n : ℕ) (rows : List (List ℕ)) (i : ℕ) → i < m → row i (as_mat q m n rows) ≡ as_row q n (get_or rows i [])
unfolding entry
row-as_mat q m n rows i h = Row-eq _ _ (λ j k. row-at i (as_mat q m n rows) j ∙ as_mat-at q m n rows i j h k ∙ sym (as_row-at q n (get_or rows i []) j k))

-- Products.
pub as_row-times : (q : Gf) (m n : ℕ) (x : List ℕ) (rows : List (List ℕ)) → IsGrid q m n rows → as_row q n (times q n x rows) ≡ as_row q m x · as_mat q m n rows
unfolding ◌·◌
as_row-times q m n x rows g = Row-eq _ _ (λ j h.
    as_row-entry q n (times q n x rows) (IsRow-times q n x rows) j ∙ get_or-times q n x rows j h ∙ ap (λ k. sum_to q k (λ i. mul q (get_or x i 0) (entry rows i j))) g.count
    ∙ sum-same q m _ _ (λ t l. sym (ap₂ (mul q) (as_row-at q m x t l) (as_mat-entry q m n rows g t j) ∙ mul-mod_left q (get_or x t 0) (entry rows t j))))

-- It is enough to know the entries at the places of the shape.
pub IsGrid-from : (q : Gf) (m n : ℕ) (rows : List (List ℕ)) → length rows ≡ m → ((i : ℕ) → i < m → length (get_or rows i []) ≡ n) → ((i j : ℕ) → i < m → j < n → entry rows i j < order q) → IsGrid q m n rows
unfolding entry
IsGrid-from q m n rows c w s = record {
  count = c;
  width = w;
  small = λ i j. elim (cases_lt i m) [
    | inl h ↦ elim (cases_lt j n) [
      | inl k ↦ s i j h k
      | inr k ↦ let past : get_or (get_or rows i []) j 0 ≡ 0 = (let e = w i h in get_or_past (get_or rows i []) j 0 (omega arith)) in subst (λ x. x < order q) (sym past) (order-pos q)
    ]
    | inr h ↦ subst (λ x. x < order q) (sym (entry_past rows i j (omega arith))) (order-pos q)
  ];
}

pub IsGrid-product : (q : Gf) (m k n : ℕ) (a b : List (List ℕ)) → IsGrid q m k a → IsGrid q k n b → IsGrid q m n (product q n a b)
IsGrid-product q m k n a b g h = IsGrid-from q m n (product q n a b) (length-product q n a b ∙ g.count)
    (λ i l. ap length (row-product q n a b i (let c = g.count in omega arith)) ∙ length-times q n (get_or a i []) b)
    (λ i j l p. subst (λ x. x < order q) (sym (entry-product q n a b i j (let c = g.count in omega arith) p)) (sum_below q (length b) _))

pub as_mat-product : (q : Gf) (m k n : ℕ) (a b : List (List ℕ)) → IsGrid q m k a → IsGrid q k n b → as_mat q m n (product q n a b) ≡ as_mat q m k a · as_mat q k n b
unfolding ◌·◌
as_mat-product q m k n a b g h = Mat-eq_below _ _ (λ i j l p.
    as_mat-at q m n (product q n a b) i j l p
    ∙ ap (λ z. z % order q) (entry-product q n a b i j (let c = g.count in omega arith) p ∙ ap (λ k. sum_to q k (λ t. mul q (entry a i t) (entry b t j))) h.count)
    ∙ mod-eq_of_lt (sum_below q k _)
    ∙ sum-same q k _ _ (λ t r. sym (ap₂ (mul q) (as_mat-entry q m k a g i t) (as_mat-entry q k n b h t j))))

-- Stacks, transposes, the unit matrix.
pub entry-append : (a b : List (List ℕ)) (m i j : ℕ) → length a ≡ m → entry (a ++ b) i j ≡ join m (λ t. entry a t j) (λ t. entry b t j) i
unfolding entry
entry-append a b m i j e = elim (join_cases m i) [
  | inl c ↦ let l : i < length a = omega (arith, c.lt) in ap (λ r. get_or r j 0) (get_or-append a b [] i l) ∙ sym (c.is _ _)
  | inr c ↦ ap (λ r. get_or r j 0) (get_or-append_right a b m i [] e c.ge) ∙ sym (c.is _ _)
]

pub IsGrid-append : (q : Gf) (m k n : ℕ) (a b : List (List ℕ)) → IsGrid q m n a → IsGrid q k n b → IsGrid q (m + k) n (a ++ b)
IsGrid-append q m k n a b g h = record {
  count = length-append a b ∙ ap₂ (λ x y. x + y) g.count h.count;
  width = λ i l. elim (cases_lt i m) [
    | inl c ↦ ap length (get_or-append a b [] i (let e = g.count in omega arith)) ∙ g.width i c
    | inr c ↦ ap length (get_or-append_right a b m i [] g.count c) ∙ h.width (i - m) (omega arith)
  ];
  small = λ i j. subst (λ x. x < order q) (sym (entry-append a b m i j g.count)) (join_both m (λ t. entry a t j) (λ t. entry b t j) i (λ x. x < order q) (λ l. g.small i j) (λ l. h.small (i - m) j));
}

pub as_mat-append : (q : Gf) (m k n : ℕ) (a b : List (List ℕ)) → IsGrid q m n a → IsGrid q k n b → as_mat q (m + k) n (a ++ b) ≡ stack (as_mat q m n a) (as_mat q k n b)
unfolding stack
as_mat-append q m k n a b g h = Mat-eq _ _ (λ i j.
    as_mat-entry q (m + k) n (a ++ b) (IsGrid-append q m k n a b g h) i j ∙ entry-append a b m i j g.count
    ∙ ap₂ (λ f u. join m f u i) (fun_ext (λ t. sym (as_mat-entry q m n a g t j))) (fun_ext (λ t. sym (as_mat-entry q k n b h t j))))

pub IsGrid-transposed : (q : Gf) (m n : ℕ) (rows : List (List ℕ)) → IsGrid q m n rows → IsGrid q n m (transposed m n rows)
unfolding transposed
IsGrid-transposed q m n rows g = IsGrid-from q n m _ (length-list_of n _)
    (λ i h. ap length (get_or-list_of n (λ j. list_of m (λ i. entry rows i j)) i [] h) ∙ length-list_of m _)
    (λ i j h k. subst (λ x. x < order q) (sym (entry-list_of n m (λ j i. entry rows i j) i j h k)) (g.small j i))

pub as_mat-transposed : (q : Gf) (m n : ℕ) (rows : List (List ℕ)) → IsGrid q m n rows → as_mat q n m (transposed m n rows) ≡ transpose (as_mat q m n rows)
unfolding transposed transpose
as_mat-transposed q m n rows g = Mat-eq_below _ _ (λ i j h k.
    as_mat-at q n m (transposed m n rows) i j h k ∙ ap (λ z. z % order q) (entry-list_of n m (λ j i. entry rows i j) i j h k) ∙ sym (as_mat-at q m n rows j i k h))

pub IsGrid-identity : (q : Gf) (n : ℕ) → IsGrid q n n (identity n)
unfolding identity unit delta
IsGrid-identity q n = IsGrid-from q n n (identity n) (length-list_of n (unit n))
    (λ i h. ap length (get_or-list_of n (unit n) i [] h) ∙ length-list_of n _)
    (λ i j h k. subst (λ x. x < order q) (sym (entry-list_of n n (λ i j. cond (eqb i j) 1 0) i j h k)) (delta_below q i j))

pub as_mat-identity : (q : Gf) (n : ℕ) → as_mat q n n (identity n) ≡ one q n
unfolding identity unit delta
as_mat-identity q n = Mat-eq_below _ _ (λ i j h k.
    as_mat-entry q n n (identity n) (IsGrid-identity q n) i j ∙ entry-list_of n n (λ i j. cond (eqb i j) 1 0) i j h k ∙ sym (one-at q n i j h))

-- Spans.
module _ (q : Gf) (m n : ℕ) (rows : List (List ℕ)) (g : IsGrid q m n rows) where
  pub in_span-as_mat : (x : List ℕ) → IsListInSpan q n rows x → IsInSpan (as_mat q m n rows) (as_row q n x)
  in_span-as_mat x s = record { by = as_row q m s.0; is = sym (as_row-times q m n s.0 rows g) ∙ ap (as_row q n) s.1 }

  pub as_mat-in_span : (x : List ℕ) → IsRow q n x → IsInSpan (as_mat q m n rows) (as_row q n x) → IsListInSpan q n rows x
  as_mat-in_span x r s = (
    list_of_row s.by,
    as_row-injective q n (times q n (list_of_row s.by) rows) x (IsRow-times q n (list_of_row s.by) rows) r
        (as_row-times q m n (list_of_row s.by) rows g ∙ ap (λ z. z · as_mat q m n rows) (as_row-list_of_row s.by) ∙ s.is),
  )

-- Lists of rows with the same span, and matrices in each other's span.
module _ (q : Gf) (m k n : ℕ) (a b : List (List ℕ)) (g : IsGrid q m n a) (h : IsGrid q k n b) where
  pub rows_span : ((x : List ℕ) → IsListInSpan q n b x → IsListInSpan q n a x) → IsInSpan (as_mat q m n a) (as_mat q k n b)
  rows_span s = in_span_by_rows (as_mat q m n a) (as_mat q k n b) (λ i l.
      subst (IsInSpan (as_mat q m n a)) (sym (row-as_mat q k n b i l)) (in_span-as_mat q m n a g (get_or b i []) (s (get_or b i []) (IsInSpan-row q k n b i h l))))

  pub same_span_forth : SameSpan q n a b → IsInSpan (as_mat q k n b) (as_mat q m n a)
  same_span_forth s = back_rows s.forth
    where
      back_rows : ((x : List ℕ) → IsListInSpan q n a x → IsListInSpan q n b x) → IsInSpan (as_mat q k n b) (as_mat q m n a)
      back_rows s = in_span_by_rows (as_mat q k n b) (as_mat q m n a) (λ i l.
          subst (IsInSpan (as_mat q k n b)) (sym (row-as_mat q m n a i l)) (in_span-as_mat q k n b h (get_or a i []) (s (get_or a i []) (IsInSpan-row q m n a i g l))))

  pub same_span_back : SameSpan q n a b → IsInSpan (as_mat q m n a) (as_mat q k n b)
  same_span_back s = rows_span s.back

  pub SameSpan-as_mat : IsInSpan (as_mat q k n b) (as_mat q m n a) → IsInSpan (as_mat q m n a) (as_mat q k n b) → SameSpan q n a b
  SameSpan-as_mat s t = record {
    forth = λ x i. as_mat-in_span q k n b h x (row_of a x i) (in_span_trans (as_mat q k n b) (as_mat q m n a) (as_row q n x) s (in_span-as_mat q m n a g x i));
    back = λ x i. as_mat-in_span q m n a g x (row_of b x i) (in_span_trans (as_mat q m n a) (as_mat q k n b) (as_row q n x) t (in_span-as_mat q k n b h x i));
  }
    where
      row_of : (a : List (List ℕ)) (x : List ℕ) → IsListInSpan q n a x → IsRow q n x
      row_of a x i = subst (IsRow q n) i.1 (IsRow-times q n i.0 a)
