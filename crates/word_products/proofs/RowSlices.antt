-- Rows that stand in a slice one after another: the first of them, and one more.
use Rattle.std.proofs.Common.{ℕ, zero, suc, ◌≡◌, ◌<◌, ◌≤◌, ◌+◌, ◌-◌, ◌*◌, inl, inr, List, [], ◌∷◌, ◌++◌, length, get_or, take, refl, sym, ap, ◌∙◌, subst, arith, length-append, add-mul}
use Rattle.std.proofs.Math.Nat.{mul-le-mul_right}
use Rattle.std.proofs.lemmas.Bool.{cases_lt, cases_eq}
use Rattle.std.proofs.lemmas.List.{ext_get_or, get_or-take, length-take, length-take-le, get_or_past, get_or_append_left, get_or-append_right, get_or_push, take_at}
use Rattle.linear_algebra.specs.Field.{Gf}
use Rattle.linear_algebra.specs.FieldLaws.{order-pos}
use Rattle.linear_algebra.specs.Rows.{rows_of, list_of, IsRow}
use Rattle.linear_algebra.specs.Reduced.{pivot, IsReduced}
use Rattle.linear_algebra.proofs.Rows.{length-rows_of, row-rows_of, list_of-is, list_of-same}
use Rattle.fp_linear.proofs.Cells.{place_below}
use Rattle.fp_linear.specs.Slices.{AreElements}
use Rattle.word_products.specs.Closure.{HoldsRows}

pub rows_of-none : (n : ℕ) (s : List ℕ) → rows_of 0 n s ≡ []
unfolding rows_of list_of
rows_of-none n s = refl

-- a place in one of the first rows
place_inside : (m n i j : ℕ) → i < m → j < n → i * n + j < m * n
place_inside m n i j h l = let p : i * n + j < m * n + 0 = place_below n i j m 0 h l in omega arith

pub rows_of-take : (m n r : ℕ) (s : List ℕ) → r ≤ m → length s ≡ m * n → rows_of r n (take (r * n) s) ≡ take r (rows_of m n s)
rows_of-take m n r s h e = ext_get_or [] _ _ same_length (λ i l. same_row i (subst (λ k. i < k) (length-rows_of r n _) l))
  where
    same_length : length (rows_of r n (take (r * n) s)) ≡ length (take r (rows_of m n s))
    same_length = length-rows_of r n _ ∙ sym (length-take-le r (rows_of m n s) (subst (λ k. r ≤ k) (sym (length-rows_of m n s)) h))

    same_row : (i : ℕ) → i < r → get_or (rows_of r n (take (r * n) s)) i [] ≡ get_or (take r (rows_of m n s)) i []
    same_row i l =
        row-rows_of r n (take (r * n) s) i l
        ∙ (list_of-same n _ _ 0 (λ j k. get_or-take (r * n) s (i * n + j) 0 (place_inside r n i j l k))
        ∙ sym (get_or-take r (rows_of m n s) i [] l ∙ row-rows_of m n s i (omega arith)))

pub rows_of-append : (m n : ℕ) (s x : List ℕ) → length s ≡ m * n → length x ≡ n → rows_of (m + 1) n (s ++ x) ≡ rows_of m n s ++ x ∷ []
rows_of-append m n s x e f = ext_get_or [] _ _ same_length (λ i l. elim (cases_lt i m) [
  | inl b ↦ before i b
  | inr b ↦ (let k : i < m + 1 = subst (λ c. i < c) (length-rows_of (m + 1) n (s ++ x)) l in
      let w : m ≡ i = omega arith in subst (λ c. get_or (rows_of (m + 1) n (s ++ x)) c [] ≡ get_or (rows_of m n s ++ x ∷ []) c []) w last)
])
  where
    same_length : length (rows_of (m + 1) n (s ++ x)) ≡ length (rows_of m n s ++ x ∷ [])
    same_length = length-rows_of (m + 1) n (s ++ x) ∙ sym (length-append (rows_of m n s) (x ∷ []) ∙ ap (λ k. k + 1) (length-rows_of m n s))

    before : (i : ℕ) → i < m → get_or (rows_of (m + 1) n (s ++ x)) i [] ≡ get_or (rows_of m n s ++ x ∷ []) i []
    before i b =
        row-rows_of (m + 1) n (s ++ x) i (omega arith)
        ∙ (list_of-same n _ _ 0 (λ j k. get_or_append_left s x 0 (i * n + j) (subst (λ c. i * n + j < c) (sym e) (place_inside m n i j b k)))
        ∙ sym (get_or_append_left (rows_of m n s) (x ∷ []) [] i (subst (λ c. i < c) (sym (length-rows_of m n s)) b) ∙ row-rows_of m n s i b))

    last : get_or (rows_of (m + 1) n (s ++ x)) m [] ≡ get_or (rows_of m n s ++ x ∷ []) m []
    last =
        row-rows_of (m + 1) n (s ++ x) m (omega arith)
        ∙ (sym (list_of-is n _ x 0 f (λ j k. sym (get_or-append_right s x (m * n) (m * n + j) 0 e (omega arith) ∙ ap (λ c. get_or x c 0) (let w : m * n + j - m * n ≡ j = omega arith in w))))
        ∙ sym (get_or_push (rows_of m n s) x [] m (length-rows_of m n s)))

pub AreElements-take : (q : Gf) (k : ℕ) (s : List ℕ) → AreElements q s → AreElements q (take k s)
AreElements-take q k s a = record {
  small = λ i. elim (cases_lt i k) [
    | inl l ↦ rw (get_or-take k s i 0 l) (a.small i)
    | inr l ↦ rw (get_or_past (take k s) i 0 (let t = length-take k s in omega arith)) (order-pos q)
  ];
}

pub AreElements-append : (q : Gf) (s x : List ℕ) → AreElements q s → AreElements q x → AreElements q (s ++ x)
AreElements-append q s x a b = record {
  small = λ i. elim (cases_lt i (length s)) [
    | inl l ↦ rw (get_or_append_left s x 0 i l) (a.small i)
    | inr l ↦ rw (get_or-append_right s x (length s) i 0 refl l) (b.small (i - length s))
  ];
}

-- a matrix in reduced row form has at most as many rows as columns
pub IsReduced-few : (n : ℕ) (rows : List (List ℕ)) → IsReduced n rows → length rows ≤ n
IsReduced-few n rows r = elim (cases_eq (length rows) 0) [
  | inl e ↦ omega arith
  | inr d ↦ (let last : length rows - 1 < length rows = omega arith in
      let a = at_least (length rows - 1) last in let b = r.nonzero (length rows - 1) last in omega arith)
]
  where
    at_least : (i : ℕ) → i < length rows → i ≤ pivot rows i
    at_least zero l = omega arith
    at_least (suc i) l = let below = at_least i (omega arith) in let step = r.further i (suc i) (omega arith) l in omega arith

-- What is left of a slice that was brought into reduced row form and cut off behind its first r rows.
pub record IsCutOff (m n r len : ℕ) (e tail items : List ℕ) : Type 0 where
  pub length_is : len ≡ m * n
  pub entries_length : length e ≡ m * n
  pub few : r ≤ m
  pub items_are : items ≡ take (r * n) (take len (e ++ tail))

pub items-cut_off : (m n r len : ℕ) (e tail items : List ℕ) → IsCutOff m n r len e tail items → items ≡ take (r * n) e
items-cut_off m n r len e tail items h = h.items_are ∙ ap (take (r * n)) (take_at e tail len (h.entries_length ∙ sym h.length_is))

pub rows-cut_off : (m n r len : ℕ) (e tail items : List ℕ) → IsCutOff m n r len e tail items → rows_of r n items ≡ take r (rows_of m n e)
rows-cut_off m n r len e tail items h = ap (rows_of r n) (items-cut_off m n r len e tail items h) ∙ rows_of-take m n r e h.few h.entries_length

pub HoldsRows-cut_off : (q : Gf) (m n r len room room' : ℕ) (e tail items old : List ℕ) → IsCutOff m n r len e tail items → AreElements q e → room' ≡ room → HoldsRows q n m room old → HoldsRows q n r room' items
HoldsRows-cut_off q m n r len room room' e tail items old h a same k = record {
  count = ap length (items-cut_off m n r len e tail items h) ∙ length-take-le (r * n) e (subst (λ c. r * n ≤ c) (sym h.entries_length) (mul-le-mul_right n h.few));
  elements = subst (AreElements q) (sym (items-cut_off m n r len e tail items h)) (AreElements-take q (r * n) e a);
  rows_fit = (let f = h.few in let g = k.rows_fit in omega arith);
  room_left = (let g = k.room_left in omega arith);
  few_columns = k.few_columns;
  small_room = (let g = k.small_room in omega arith);
}

-- one more row
pub HoldsRows-push : (q : Gf) (m n room : ℕ) (s x items : List ℕ) → HoldsRows q n m room s → m < room → IsRow q n x → items ≡ s ++ x → HoldsRows q n (m + 1) room items
HoldsRows-push q m n room s x items k h r e = record {
  count = ap length e ∙ (length-append s x ∙ (let a = k.count in let b = r.count in let c = add-mul m 1 n in omega arith));
  elements = subst (AreElements q) (sym e) (AreElements-append q s x k.elements (record { small = r.small }));
  rows_fit = omega arith;
  room_left = k.room_left;
  few_columns = k.few_columns;
  small_room = k.small_room;
}
