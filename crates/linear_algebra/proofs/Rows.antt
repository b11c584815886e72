-- Laws of rows, matrices and spans as lists.
use Rattle.std.proofs.Common.{ℕ, suc, ◌<◌, ◌≤◌, ◌≡◌, ◌≢◌, ◌+◌, ◌*◌, inl, inr, List, [], ◌∷◌, length, map, get_or, refl, sym, ap, ◌∙◌, cond, eqb, arith}
use Rattle.std.proofs.lemmas.List.{get_or_past, get_or-map, length-map, ext_get_or}
use Rattle.std.proofs.lemmas.List.FromFn.{length-map-range_with_len, get_or-map-range_with_len, fill_by_all}
use Rattle.std.proofs.lemmas.Bool.{cases_lt}
use Rattle.std.proofs.lemmas.Bool.Decides.{eqb_tells}
use Rattle.linear_algebra.specs.Field.{Gf, order, add, mul}
use Rattle.linear_algebra.specs.Sums.{sum_to, sum-same, sum-add, mul-sum, sum-mul, sum-swap, sum-single, sum_below}
use Rattle.linear_algebra.specs.Rows.{list_of, entry, IsRow, IsGrid, rows_of, unit, times, product, IsInSpan, SameSpan}
use Rattle.linear_algebra.specs.FieldLaws.{mod-mul, order-pos, mul_assoc, add_mul, zero_mul, one_mul}

-- lists made of a function
pub length-list_of : {X : Type 0} (n : ℕ) (f : ℕ → X) → length (list_of n f) ≡ n
unfolding list_of
length-list_of n f = length-map-range_with_len f 0 n

pub get_or-list_of : {X : Type 0} (n : ℕ) (f : ℕ → X) (i : ℕ) (d : X) → i < n → get_or (list_of n f) i d ≡ f i
unfolding list_of
get_or-list_of n f i d h = get_or-map-range_with_len f 0 n i i d h (omega arith)

pub get_or-list_of_past : {X : Type 0} (n : ℕ) (f : ℕ → X) (i : ℕ) (d : X) → n ≤ i → get_or (list_of n f) i d ≡ d
get_or-list_of_past n f i d h = get_or_past _ i d (let e = length-list_of n f in omega arith)

pub list_of-is : {X : Type 0} (n : ℕ) (f : ℕ → X) (xs : List X) (d : X) → length xs ≡ n → ((i : ℕ) → i < n → get_or xs i d ≡ f i) → xs ≡ list_of n f
unfolding list_of
list_of-is n f xs d e h = fill_by_all f xs n d e h

pub list_of-same : {X : Type 0} (n : ℕ) (f g : ℕ → X) (d : X) → ((i : ℕ) → i < n → f i ≡ g i) → list_of n f ≡ list_of n g
list_of-same n f g d h = list_of-is n g (list_of n f) d (length-list_of n f) (λ i l. get_or-list_of n f i d l ∙ h i l)

-- entries
pub entry-list_of : (m n : ℕ) (f : ℕ → ℕ → ℕ) (i j : ℕ) → i < m → j < n → entry (list_of m (λ i. list_of n (f i))) i j ≡ f i j
unfolding entry
entry-list_of m n f i j p r = rw (get_or-list_of m (λ i. list_of n (f i)) i [] p) (get_or-list_of n (f i) j 0 r)

pub entry-rows_of : (m n : ℕ) (s : List ℕ) (i j : ℕ) → i < m → j < n → entry (rows_of m n s) i j ≡ get_or s (i * n + j) 0
unfolding rows_of
entry-rows_of m n s i j p r = entry-list_of m n (λ i j. get_or s (i * n + j) 0) i j p r

pub entry_past : (rows : List (List ℕ)) (i j : ℕ) → length rows ≤ i → entry rows i j ≡ 0
unfolding entry
entry_past rows i j h = rw (get_or_past rows i [] h) refl

pub row-entry : (rows : List (List ℕ)) (i j : ℕ) → get_or (get_or rows i []) j 0 ≡ entry rows i j
unfolding entry
row-entry rows i j = refl

-- the row of a matrix as a list of its entries
pub row-is : (q : Gf) (m n : ℕ) (rows : List (List ℕ)) (i : ℕ) → IsGrid q m n rows → i < m → get_or rows i [] ≡ list_of n (entry rows i)
row-is q m n rows i g h = list_of-is n (entry rows i) (get_or rows i []) 0 (g.width i h) (λ j l. row-entry rows i j)

-- two matrices of one shape with the same entries are equal
pub rows_same : (m n : ℕ) (a b : List (List ℕ)) → length a ≡ m → length b ≡ m → ((i : ℕ) → i < m → length (get_or a i []) ≡ n) → ((i : ℕ) → i < m → length (get_or b i []) ≡ n)
    → ((i j : ℕ) → i < m → j < n → entry a i j ≡ entry b i j) → a ≡ b
unfolding entry
rows_same m n a b ea eb wa wb h = ext_get_or [] a b (ea ∙ sym eb) (λ i l. let l' : i < m = omega arith in ext_get_or 0 _ _ (wa i l' ∙ sym (wb i l')) (λ j k. h i j l' (let w = wa i l' in omega arith)))

pub length-rows_of : (m n : ℕ) (s : List ℕ) → length (rows_of m n s) ≡ m
unfolding rows_of
length-rows_of m n s = length-list_of m _

pub row-rows_of : (m n : ℕ) (s : List ℕ) (i : ℕ) → i < m → get_or (rows_of m n s) i [] ≡ list_of n (λ j. get_or s (i * n + j) 0)
unfolding rows_of
row-rows_of m n s i h = get_or-list_of m _ i [] h

-- times
pub length-times : (q : Gf) (n : ℕ) (x : List ℕ) (rows : List (List ℕ)) → length (times q n x rows) ≡ n
unfolding times
length-times q n x rows = length-list_of n _

pub get_or-times : (q : Gf) (n : ℕ) (x : List ℕ) (rows : List (List ℕ)) (j : ℕ) → j < n → get_or (times q n x rows) j 0 ≡ sum_to q (length rows) (λ i. mul q (get_or x i 0) (entry rows i j))
unfolding times
get_or-times q n x rows j h = get_or-list_of n _ j 0 h

pub times-is : (q : Gf) (n : ℕ) (c : List ℕ) (rows : List (List ℕ)) (x : List ℕ) → length x ≡ n → ((j : ℕ) → j < n → sum_to q (length rows) (λ i. mul q (get_or c i 0) (entry rows i j)) ≡ get_or x j 0) → times q n c rows ≡ x
unfolding times
times-is q n c rows x e h = sym (list_of-is n _ x 0 e (λ j l. sym (h j l)))

pub IsRow-times : (q : Gf) (n : ℕ) (x : List ℕ) (rows : List (List ℕ)) → IsRow q n (times q n x rows)
IsRow-times q n x rows = record {
  count = length-times q n x rows;
  small = λ j. elim (cases_lt j n) [
    | inl l ↦ rw (get_or-times q n x rows j l) (sum_below q _ _)
    | inr l ↦ rw (get_or_past (times q n x rows) j 0 (let e = length-times q n x rows in omega arith)) (order-pos q)
  ];
}

-- the product by entries
pub length-product : (q : Gf) (n : ℕ) (a b : List (List ℕ)) → length (product q n a b) ≡ length a
unfolding product
length-product q n a b = length-map a _

pub row-product : (q : Gf) (n : ℕ) (a b : List (List ℕ)) (i : ℕ) → i < length a → get_or (product q n a b) i [] ≡ times q n (get_or a i []) b
unfolding product
row-product q n a b i h = get_or-map (λ x. times q n x b) a i [] [] h

pub entry-product : (q : Gf) (n : ℕ) (a b : List (List ℕ)) (i j : ℕ) → i < length a → j < n → entry (product q n a b) i j ≡ sum_to q (length b) (λ k. mul q (entry a i k) (entry b k j))
unfolding entry
entry-product q n a b i j h l = rw (row-product q n a b i h) (get_or-times q n (get_or a i []) b j l)

-- (x · a) · b ≡ x · (a · b), where a has as many columns as b has rows
times-times-at : (q : Gf) (n : ℕ) (x : List ℕ) (a b : List (List ℕ)) (j : ℕ) → j < n
    → sum_to q (length b) (λ k. mul q (get_or (times q (length b) x a) k 0) (entry b k j)) ≡ get_or (times q n x (product q n a b)) j 0
times-times-at q n x a b j l =
    sum-same q (length b) _ _ (λ k h. ap (λ y. mul q y (entry b k j)) (get_or-times q (length b) x a k h) ∙ sum-mul q (length a) (entry b k j) _)
    ∙ sum-swap q (length b) (length a) (λ k i. mul q (mul q (get_or x i 0) (entry a i k)) (entry b k j))
    ∙ sum-same q (length a) _ _ (λ i h.
    sum-same q (length b) _ _ (λ k _. mul_assoc q (get_or x i 0) (entry a i k) (entry b k j))
    ∙ sym (mul-sum q (length b) (get_or x i 0) (λ k. mul q (entry a i k) (entry b k j)))
    ∙ ap (mul q (get_or x i 0)) (sym (entry-product q n a b i j h l)))
    ∙ sym (get_or-times q n x (product q n a b) j l ∙ ap (λ m. sum_to q m (λ i. mul q (get_or x i 0) (entry (product q n a b) i j))) (length-product q n a b))

pub times-times : (q : Gf) (n : ℕ) (x : List ℕ) (a b : List (List ℕ)) → times q n (times q (length b) x a) b ≡ times q n x (product q n a b)
times-times q n x a b = times-is q n _ b _ (length-times q n x _) (λ j l. times-times-at q n x a b j l)

-- a matrix is in the span of another, row by row, exactly where it is a product
pub rows_in_span : (q : Gf) (n : ℕ) (b a : List (List ℕ)) → ((i : ℕ) → i < length a → IsInSpan q n b (get_or a i [])) → (c : List (List ℕ)) × (product q n c b ≡ a)
unfolding product
rows_in_span q n b [] h = ([], refl)
rows_in_span q n b (r ∷ a) h =
    let first = h 0 (omega arith) in
    let rest = rows_in_span q n b a (λ i l. h (suc i) (omega arith)) in
    (first.0 ∷ rest.0, ap (λ x. x ∷ map (λ x. times q n x b) rest.0) first.1 ∙ ap (λ y. r ∷ y) rest.1)

-- the span of rows that lie in a span lies in it
pub IsInSpan-through : (q : Gf) (n : ℕ) (b a : List (List ℕ)) → ((i : ℕ) → i < length a → IsInSpan q n b (get_or a i [])) → (x : List ℕ) → IsInSpan q n a x → IsInSpan q n b x
IsInSpan-through q n b a h x k =
    let c = rows_in_span q n b a h in
    (times q (length b) k.0 c.0, times-times q n k.0 c.0 b ∙ ap (times q n k.0) c.1 ∙ k.1)

pub SameSpan-from_rows : (q : Gf) (n : ℕ) (a b : List (List ℕ)) → ((i : ℕ) → i < length a → IsInSpan q n b (get_or a i [])) → ((i : ℕ) → i < length b → IsInSpan q n a (get_or b i [])) → SameSpan q n a b
SameSpan-from_rows q n a b f g = record { forth = IsInSpan-through q n b a f; back = IsInSpan-through q n a b g }

pub SameSpan-refl : (q : Gf) (n : ℕ) (a : List (List ℕ)) → SameSpan q n a a
SameSpan-refl q n a = record { forth = λ x h. h; back = λ x h. h }

pub SameSpan-sym : (q : Gf) (n : ℕ) (a b : List (List ℕ)) → SameSpan q n a b → SameSpan q n b a
SameSpan-sym q n a b h = record { forth = h.back; back = h.forth }

pub SameSpan-trans : (q : Gf) (n : ℕ) (a b c : List (List ℕ)) → SameSpan q n a b → SameSpan q n b c → SameSpan q n a c
SameSpan-trans q n a b c h k = record { forth = λ x p. k.forth x (h.forth x p); back = λ x p. h.back x (k.back x p) }

-- each row is in the span of the rows
pub get_or-unit : (n i j : ℕ) → j < n → get_or (unit n i) j 0 ≡ cond (eqb i j) 1 0
unfolding unit
get_or-unit n i j h = get_or-list_of n _ j 0 h

mul-unit_other : (q : Gf) (n i j a : ℕ) → j < n → j ≢ i → mul q (get_or (unit n i) j 0) a ≡ 0
mul-unit_other q n i j a h ne =
    elim (eqb_tells i j) [
      | inl e ↦ absurd (ne (sym e.1))
      | inr e ↦ ap (λ y. mul q y a) (get_or-unit n i j h ∙ ap (λ b. cond b 1 0) e.0) ∙ zero_mul q a
    ]

mul-unit_same : (q : Gf) (n i a : ℕ) → i < n → a < order q → mul q (get_or (unit n i) i 0) a ≡ a
mul-unit_same q n i a h l =
    elim (eqb_tells i i) [
      | inl e ↦ ap (λ y. mul q y a) (get_or-unit n i i h ∙ ap (λ b. cond b 1 0) e.0) ∙ one_mul q a l
      | inr e ↦ absurd (e.1 refl)
    ]

pub times-unit : (q : Gf) (m n : ℕ) (rows : List (List ℕ)) (i : ℕ) → IsGrid q m n rows → i < m → times q n (unit m i) rows ≡ get_or rows i []
times-unit q m n rows i g h = times-is q n (unit m i) rows _ (g.width i h) (λ j l.
    ap (λ k. sum_to q k (λ t. mul q (get_or (unit m i) t 0) (entry rows t j))) g.count
    ∙ sum-single q m i _ h (λ t p ne. mul-unit_other q m i t _ p ne) ∙ mod-mul q _ _
    ∙ mul-unit_same q m i (entry rows i j) h (g.small i j)
    ∙ sym (row-entry rows i j))

pub IsInSpan-row : (q : Gf) (m n : ℕ) (rows : List (List ℕ)) (i : ℕ) → IsGrid q m n rows → i < m → IsInSpan q n rows (get_or rows i [])
IsInSpan-row q m n rows i g h = (unit m i, times-unit q m n rows i g h)

-- a multiple of a row of the span is in the span
pub IsInSpan-multiple : (q : Gf) (n : ℕ) (rows : List (List ℕ)) (a : ℕ) (v : List ℕ) → IsInSpan q n rows v → IsInSpan q n rows (list_of n (λ j. mul q a (get_or v j 0)))
IsInSpan-multiple q n rows a v h =
    let m = length rows in (
      list_of m (λ i. mul q a (get_or h.0 i 0)),
      times-is q n _ rows _ (length-list_of n _) (λ j l.
          sum-same q m _ _ (λ i p. ap (λ y. mul q y (entry rows i j)) (get_or-list_of m _ i 0 p) ∙ mul_assoc q a _ _)
          ∙ sym (mul-sum q m a _)
          ∙ ap (mul q a) (sym (get_or-times q n h.0 rows j l) ∙ ap (λ y. get_or y j 0) h.1)
          ∙ sym (get_or-list_of n _ j 0 l)),
    )

-- the sum of two rows of the span is in the span
pub IsInSpan-sum : (q : Gf) (n : ℕ) (rows : List (List ℕ)) (u v : List ℕ) → IsInSpan q n rows u → IsInSpan q n rows v → IsInSpan q n rows (list_of n (λ j. add q (get_or u j 0) (get_or v j 0)))
IsInSpan-sum q n rows u v h k =
    let m = length rows in (
      list_of m (λ i. add q (get_or h.0 i 0) (get_or k.0 i 0)),
      times-is q n _ rows _ (length-list_of n _) (λ j l.
          sum-same q m _ _ (λ i p. ap (λ y. mul q y (entry rows i j)) (get_or-list_of m _ i 0 p) ∙ add_mul q _ _ _)
          ∙ sum-add q m _ _
          ∙ ap (λ y. add q y (sum_to q m (λ i. mul q (get_or k.0 i 0) (entry rows i j)))) (sym (get_or-times q n h.0 rows j l) ∙ ap (λ y. get_or y j 0) h.1)
          ∙ ap (add q (get_or u j 0)) (sym (get_or-times q n k.0 rows j l) ∙ ap (λ y. get_or y j 0) k.1)
          ∙ sym (get_or-list_of n _ j 0 l)),
    )

-- u + a v
pub IsInSpan-add_multiple : (q : Gf) (n : ℕ) (rows : List (List ℕ)) (a : ℕ) (u v : List ℕ) → IsInSpan q n rows u → IsInSpan q n rows v
    → IsInSpan q n rows (list_of n (λ j. add q (get_or u j 0) (mul q a (get_or v j 0))))
IsInSpan-add_multiple q n rows a u v h k =
    let s = IsInSpan-sum q n rows u (list_of n (λ j. mul q a (get_or v j 0))) h (IsInSpan-multiple q n rows a v k) in
    (s.0, s.1 ∙ list_of-same n _ _ 0 (λ j l. ap (add q (get_or u j 0)) (get_or-list_of n _ j 0 l)))

IsInSpan-same : (q : Gf) (n : ℕ) (rows : List (List ℕ)) (u v : List ℕ) → u ≡ v → IsInSpan q n rows u → IsInSpan q n rows v
IsInSpan-same q n rows u v e h = (h.0, h.1 ∙ e)
