-- Sparse rows that are added to rows, step by step.
use Rattle.std.proofs.Common.{ℕ, suc, ◌≡◌, ◌<◌, ◌+◌, ◌*◌, inl, inr, List, [], ◌∷◌, ◌++◌, length, take, get_or, set, eqb, if◌then◌else◌, refl, sym, ap, ap₂, ◌∙◌, subst, arith}
use Rattle.std.specs.Prelude.{replicate}
use Rattle.std.proofs.lemmas.Bool.{cases_lt, cases_eq, cond-true, cond-false, eq-eqb, ne_eqb}
use Rattle.std.proofs.lemmas.List.{get_or-replicate, length-replicate, get_or-set_same, get_or-set_other, length-set, take_more}
use Rattle.linear_algebra.specs.Field.{Gf, order, add, mul}
use Rattle.linear_algebra.specs.FieldLaws.{order-pos, add_below, add_assoc, add_zero, add_zero-mod, add-mod_right, mul_add, mul_zero, zero_mul}
use Rattle.linear_algebra.specs.Sums.{sum_to, sum-suc, sum-none, sum_below}
use Rattle.linear_algebra.specs.Rows.{list_of, IsRow}
use Rattle.linear_algebra.proofs.Rows.{length-list_of, get_or-list_of, get_or-list_of_past, list_of-is, list_of-same}
use Rattle.word_products.specs.declared.sparse.Entry.{Entry}
use Rattle.word_products.specs.SparseRows.{entry_at, with_multiple, acted_to, acted_by, acted_along}
use Rattle.path_algebra.proofs.SumsOver.{sum_over_below, sum_over-append, sum_over-nil, sum_over-cons}

-- a list of elements is a row
pub IsRow-list_of : (q : Gf) (n : ℕ) (f : ℕ → ℕ) → ((j : ℕ) → j < n → f j < order q) → IsRow q n (list_of n f)
IsRow-list_of q n f s = record {
  count = length-list_of n f;
  small = λ j. elim (cases_lt j n) [
    | inl l ↦ subst (λ x. x < order q) (sym (get_or-list_of n f j 0 l)) (s j l)
    | inr l ↦ subst (λ x. x < order q) (sym (get_or-list_of_past n f j 0 l)) (order-pos q)
  ];
}

pub add_right_zero : (q : Gf) (a b : ℕ) → add q a (add q b 0) ≡ add q a b
add_right_zero q a b = ap (add q a) (add_zero-mod q b) ∙ add-mod_right q a b

pub entry_at-none : (q : Gf) (j : ℕ) → entry_at q [] j ≡ 0
unfolding entry_at
entry_at-none q j = sum_over-nil {X = Entry} q _

pub entry_at-push : (q : Gf) (xs : List Entry) (e : Entry) (j : ℕ) → entry_at q (xs ++ e ∷ []) j ≡ add q (entry_at q xs j) (if eqb e.word j then e.coef else 0)
unfolding entry_at
entry_at-push q xs e j = sum_over-append q xs (e ∷ []) _
    ∙ ap (add q (entry_at q xs j)) (sum_over-cons q e [] value ∙ ap (add q (value e)) (sum_over-nil {X = Entry} q value))
    ∙ add_right_zero q (entry_at q xs j) (value e)
  where
    value : Entry → ℕ
    value x = if eqb x.word j then x.coef else 0

pub entry_at_below : (q : Gf) (xs : List Entry) (j : ℕ) → entry_at q xs j < order q
unfolding entry_at
entry_at_below q xs j = sum_over_below q xs _

-- ---- a multiple of a sparse row

pub length-with_multiple : (q : Gf) (f : ℕ) (xs : List Entry) (row : List ℕ) → length (with_multiple q f xs row) ≡ length row
unfolding with_multiple
length-with_multiple q f xs row = length-list_of (length row) _

pub with_multiple-at : (q : Gf) (f : ℕ) (xs : List Entry) (row : List ℕ) (j : ℕ) → j < length row
    → get_or (with_multiple q f xs row) j 0 ≡ add q (get_or row j 0) (mul q f (entry_at q xs j))
unfolding with_multiple
with_multiple-at q f xs row j l = get_or-list_of (length row) _ j 0 l

pub IsRow-with_multiple : (q : Gf) (f : ℕ) (xs : List Entry) (row : List ℕ) → IsRow q (length row) (with_multiple q f xs row)
unfolding with_multiple
IsRow-with_multiple q f xs row = IsRow-list_of q (length row) _ (λ j l. add_below q _ _)

pub with_multiple-none : (q : Gf) (f : ℕ) (row : List ℕ) → IsRow q (length row) row → row ≡ with_multiple q f [] row
unfolding with_multiple
with_multiple-none q f row r = list_of-is (length row) _ row 0 refl (λ j l. sym (ap (λ x. add q (get_or row j 0) (mul q f x)) (entry_at-none q j) ∙ ap (add q (get_or row j 0)) (mul_zero q f) ∙ add_zero q (get_or row j 0) (r.small j)))

pub with_multiple-zero : (q : Gf) (f : ℕ) (xs : List Entry) (row : List ℕ) → f ≡ 0 → IsRow q (length row) row → row ≡ with_multiple q f xs row
unfolding with_multiple
with_multiple-zero q f xs row z r = list_of-is (length row) _ row 0 refl (λ j l. sym (ap (λ x. add q (get_or row j 0) (mul q x (entry_at q xs j))) z ∙ ap (add q (get_or row j 0)) (zero_mul q (entry_at q xs j)) ∙ add_zero q (get_or row j 0) (r.small j)))

pub with_multiple-push : (q : Gf) (f : ℕ) (xs : List Entry) (e : Entry) (row : List ℕ) → e.word < length row
    → set (with_multiple q f xs row) e.word (add q (get_or (with_multiple q f xs row) e.word 0) (mul q f e.coef)) ≡ with_multiple q f (xs ++ e ∷ []) row
unfolding with_multiple
with_multiple-push q f xs e row w = list_of-is (length row) _ (set (with_multiple q f xs row) e.word value) 0 (length-set (with_multiple q f xs row) e.word value ∙ length-with_multiple q f xs row) at
  where
    value : ℕ
    value = add q (get_or (with_multiple q f xs row) e.word 0) (mul q f e.coef)

    inside : e.word < length (with_multiple q f xs row)
    inside = subst (λ n. e.word < n) (sym (length-with_multiple q f xs row)) w

    here : value ≡ add q (get_or row e.word 0) (mul q f (entry_at q (xs ++ e ∷ []) e.word))
    here = ap (λ x. add q x (mul q f e.coef)) (with_multiple-at q f xs row e.word w)
        ∙ add_assoc q (get_or row e.word 0) (mul q f (entry_at q xs e.word)) (mul q f e.coef)
        ∙ ap (add q (get_or row e.word 0)) (sym (mul_add q f (entry_at q xs e.word) e.coef)
        ∙ ap (mul q f) (ap (add q (entry_at q xs e.word)) (sym (cond-true (eqb e.word e.word) e.coef 0 (eq-eqb _ _ refl))) ∙ sym (entry_at-push q xs e e.word)))

    at : (j : ℕ) → j < length row → get_or (set (with_multiple q f xs row) e.word value) j 0 ≡ add q (get_or row j 0) (mul q f (entry_at q (xs ++ e ∷ []) j))
    at j l = elim (cases_eq j e.word) [
      | inl i ↦ subst (λ k. get_or (set (with_multiple q f xs row) e.word value) k 0 ≡ add q (get_or row k 0) (mul q f (entry_at q (xs ++ e ∷ []) k))) (sym i)
          (get_or-set_same (with_multiple q f xs row) e.word value 0 inside ∙ here)
      | inr n ↦ get_or-set_other (with_multiple q f xs row) e.word j value 0 n ∙ with_multiple-at q f xs row j l
          ∙ ap (λ x. add q (get_or row j 0) (mul q f x)) (sym (entry_at-push q xs e j ∙ ap (add q (entry_at q xs j)) (cond-false (eqb e.word j) e.coef 0 (ne_eqb _ _ (λ i. n (sym i))))
          ∙ add_zero q (entry_at q xs j) (entry_at_below q xs j)))
    ]

-- ---- what an arrow makes of a row

pub IsRow-acted_to : (q : Gf) (rows : List (List Entry)) (arrows a : ℕ) (row : List ℕ) (k : ℕ) → IsRow q (length row) (acted_to q rows arrows a row k)
unfolding acted_to
IsRow-acted_to q rows arrows a row k = IsRow-list_of q (length row) _ (λ j l. sum_below q k _)

pub acted_to-none : (q : Gf) (rows : List (List Entry)) (arrows a : ℕ) (row : List ℕ) (n : ℕ) → n ≡ length row → replicate n 0 ≡ acted_to q rows arrows a row 0
unfolding acted_to
acted_to-none q rows arrows a row n e = list_of-is (length row) _ (replicate n 0) 0 (length-replicate n 0 ∙ e) (λ j l. get_or-replicate n j 0 0 (omega (arith, l, e)) ∙ sym (sum-none q _))

pub acted_to-skip : (q : Gf) (rows : List (List Entry)) (arrows a : ℕ) (row : List ℕ) (k : ℕ) → get_or row k 0 ≡ 0 → acted_to q rows arrows a row k ≡ acted_to q rows arrows a row (k + 1)
unfolding acted_to
acted_to-skip q rows arrows a row k z = list_of-same (length row) _ _ 0 (λ j l. sym (ap (λ n. sum_to q n (term j)) next ∙ sum-suc q k (term j)
    ∙ ap (add q (sum_to q k (term j))) (ap (λ c. mul q c (entry_at q (get_or rows (k * arrows + a) []) j)) z ∙ zero_mul q _) ∙ add_zero q (sum_to q k (term j)) (sum_below q k (term j))))
  where
    term : ℕ → ℕ → ℕ
    term j i = mul q (get_or row i 0) (entry_at q (get_or rows (i * arrows + a) []) j)

    next : k + 1 ≡ suc k
    next = omega arith

pub acted_to-add : (q : Gf) (rows : List (List Entry)) (arrows a : ℕ) (row : List ℕ) (k : ℕ)
    → with_multiple q (get_or row k 0) (get_or rows (k * arrows + a) []) (acted_to q rows arrows a row k) ≡ acted_to q rows arrows a row (k + 1)
unfolding acted_to
acted_to-add q rows arrows a row k = list_of-is (length row) _ (with_multiple q (get_or row k 0) (get_or rows (k * arrows + a) []) (acted_to q rows arrows a row k)) 0
    (length-with_multiple q (get_or row k 0) (get_or rows (k * arrows + a) []) (acted_to q rows arrows a row k) ∙ (IsRow-acted_to q rows arrows a row k).count)
    (λ j l. with_multiple-at q (get_or row k 0) (get_or rows (k * arrows + a) []) (acted_to q rows arrows a row k) j (subst (λ n. j < n) (sym (IsRow-acted_to q rows arrows a row k).count) l)
    ∙ ap (λ x. add q x (term j k)) (get_or-list_of (length row) (λ i. sum_to q k (term i)) j 0 l)
    ∙ sym (sum-suc q k (term j)) ∙ ap (λ n. sum_to q n (term j)) (sym next))
  where
    term : ℕ → ℕ → ℕ
    term j i = mul q (get_or row i 0) (entry_at q (get_or rows (i * arrows + a) []) j)

    next : k + 1 ≡ suc k
    next = omega arith

-- ---- and arrows one behind the other

pub acted_along-then : (q : Gf) (rows : List (List Entry)) (arrows : ℕ) (path : List ℕ) (a : ℕ) (row : List ℕ)
    → acted_by q rows arrows a (acted_along q rows arrows path row) ≡ acted_along q rows arrows (path ++ a ∷ []) row
unfolding acted_along
acted_along-then q rows arrows [] a row = refl
acted_along-then q rows arrows (b ∷ path) a row = acted_along-then q rows arrows path a (acted_by q rows arrows b row)

pub acted_along-none : (q : Gf) (rows : List (List Entry)) (arrows : ℕ) (row : List ℕ) → row ≡ acted_along q rows arrows [] row
unfolding acted_along
acted_along-none q rows arrows row = refl

pub acted_along-first : (q : Gf) (rows : List (List Entry)) (arrows a : ℕ) (path row : List ℕ)
    → acted_along q rows arrows path (acted_along q rows arrows (a ∷ []) row) ≡ acted_along q rows arrows (a ∷ path) row
unfolding acted_along
acted_along-first q rows arrows a path row = refl

pub IsRow-acted_along : (q : Gf) (rows : List (List Entry)) (arrows : ℕ) (path : List ℕ) (n : ℕ) (row : List ℕ) → IsRow q n row → IsRow q n (acted_along q rows arrows path row)
unfolding acted_along
IsRow-acted_along q rows arrows [] n row r = r
IsRow-acted_along q rows arrows (b ∷ path) n row r = IsRow-acted_along q rows arrows path n (acted_by q rows arrows b row)
    (subst (λ m. IsRow q m (acted_by q rows arrows b row)) r.count (IsRow-acted_to q rows arrows b row (length row)))

-- ---- steps of loops

pub with_multiple-step : (q : Gf) (f : ℕ) (entries : List Entry) (k : ℕ) (row into : List ℕ) (d : Entry) (m v : ℕ) → k < length entries → (get_or entries k d).word < length row
    → into ≡ with_multiple q f (take k entries) row → m ≡ mul q f (get_or entries k d).coef → v ≡ add q (get_or into (get_or entries k d).word 0) m
    → set into (get_or entries k d).word v ≡ with_multiple q f (take (k + 1) entries) row
with_multiple-step q f entries k row into d m v l w i e a =
    ap₂ (λ x y. set x (get_or entries k d).word y) i (a ∙ ap₂ (λ x y. add q (get_or x (get_or entries k d).word 0) y) i e)
    ∙ with_multiple-push q f (take k entries) (get_or entries k d) row w
    ∙ ap (λ xs. with_multiple q f xs row) (sym (take_more entries k d l))

pub acted_to-then : (q : Gf) (rows : List (List Entry)) (arrows a : ℕ) (row : List ℕ) (k : ℕ) (into new : List ℕ) (f : ℕ) (r : List Entry) → into ≡ acted_to q rows arrows a row k
    → f ≡ get_or row k 0 → r ≡ get_or rows (k * arrows + a) [] → new ≡ with_multiple q f r into → new ≡ acted_to q rows arrows a row (k + 1)
acted_to-then q rows arrows a row k into new f r i e g n = n ∙ ap (with_multiple q f r) i ∙ ap₂ (λ x y. with_multiple q x y (acted_to q rows arrows a row k)) e g ∙ acted_to-add q rows arrows a row k

pub row_is : (q q' : Gf) (n : ℕ) (into row : List ℕ) → q' ≡ q → into ≡ row → IsRow q n row → IsRow q' (length into) into
row_is q q' n into row e i r = subst (λ x. IsRow x (length into) into) (sym e) (subst (λ x. IsRow q (length x) x) (sym i) (subst (λ m. IsRow q m row) (sym r.count) r))

pub acted_along-step : (q : Gf) (rows : List (List Entry)) (arrows : ℕ) (path : List ℕ) (k : ℕ) (start row : List ℕ) → k < length path → row ≡ acted_along q rows arrows (take k path) start
    → acted_by q rows arrows (get_or path k 0) row ≡ acted_along q rows arrows (take (k + 1) path) start
acted_along-step q rows arrows path k start row l e = ap (acted_by q rows arrows (get_or path k 0)) e ∙ acted_along-then q rows arrows (take k path) (get_or path k 0) start
    ∙ ap (λ p. acted_along q rows arrows p start) (sym (take_more path k 0 l))

pub IsRow-acted_by : (q : Gf) (rows : List (List Entry)) (arrows a n : ℕ) (row : List ℕ) → IsRow q n row → IsRow q n (acted_by q rows arrows a row)
IsRow-acted_by q rows arrows a n row r = subst (λ m. IsRow q m (acted_by q rows arrows a row)) r.count (IsRow-acted_to q rows arrows a row (length row))

pub acted_to-at : (q : Gf) (rows : List (List Entry)) (arrows a : ℕ) (row : List ℕ) (k j : ℕ) → j < length row
    → get_or (acted_to q rows arrows a row k) j 0 ≡ sum_to q k (λ i. mul q (get_or row i 0) (entry_at q (get_or rows (i * arrows + a) []) j))
unfolding acted_to
acted_to-at q rows arrows a row k j l = get_or-list_of (length row) _ j 0 l

pub length-acted_to : (q : Gf) (rows : List (List Entry)) (arrows a : ℕ) (row : List ℕ) (k : ℕ) → length (acted_to q rows arrows a row k) ≡ length row
unfolding acted_to
length-acted_to q rows arrows a row k = length-list_of (length row) _
