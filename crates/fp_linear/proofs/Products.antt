-- Products of matrices row by row, and transposes column by column.
use Rattle.std.proofs.Common.{ℕ, ◌<◌, ◌≡◌, inl, inr, ◌+◌, ◌*◌, ◌-◌, ◌/◌, ◌%◌, List, [], ◌++◌, length, get_or, sym, ap, ◌∙◌, arith, add-mul}
use Rattle.std.proofs.lemmas.List.{get_or-append-add, get_or_append_left, get_or-append_right, length-append, ext_get_or, get_or_past}
use Rattle.std.proofs.lemmas.Nat.{mul-add-lt, div_below, mod_below}
use Rattle.std.proofs.lemmas.Bool.{cases_lt, cases_eq}
use Rattle.linear_algebra.specs.Field.{Gf, order, mul}
use Rattle.linear_algebra.specs.FieldLaws.{order-pos}
use Rattle.linear_algebra.specs.Sums.{sum_to, sum_below, sum-same}
use Rattle.linear_algebra.specs.Rows.{entry, rows_of, product, times, transposed}
use Rattle.linear_algebra.proofs.Rows.{get_or-times, rows_same, entry-product, length-product, length-rows_of, row-rows_of, row-product, length-times, length-list_of, list_of-same}
use Rattle.fp_linear.specs.Slices.{AreElements, cell, IsWritten}
use Rattle.fp_linear.specs.Products.{HasProductRows, HasColumns}
use Rattle.fp_linear.proofs.Cells.{cell-is, cell-written, cell-unwritten, cell-entry}

pub HasProductRows-none : (q : Gf) (k n : ℕ) (a e f : ℕ → ℕ → ℕ) → HasProductRows q k n 0 a e f
HasProductRows-none q k n a e f = record { done = λ t j h. absurd (omega arith) }

-- one row more: the part x of the left slice times the right one is written
pub HasProductRows-more : (q : Gf) (m k n i : ℕ) (left right old x row new : List ℕ) → i < m → length x ≡ k → ((u : ℕ) → u < k → get_or x u 0 ≡ cell k left i u) → row ≡ times q n x (rows_of (length x) n right)
    → IsWritten old new (i * n) n (λ j. get_or row j 0) → HasProductRows q k n i (cell k left) (cell n right) (cell n old) → HasProductRows q k n (i + 1) (cell k left) (cell n right) (cell n new)
HasProductRows-more q m k n i left right old x row new hi size part is w h = record {
  done = λ t j l b. elim (cases_lt t i) [
    | inl c ↦ cell-unwritten old new n i 0 (i * n) n _ (omega arith) (omega arith) w t j b (λ e. omega arith) ∙ h.done t j c b
    | inr c ↦
        let s : t ≡ i = omega arith in
        let z : ◌≡◌ {A = ℕ} (j - 0) j = omega arith in
        ap (λ t. cell n new t j) s
        ∙ cell-written old new n i 0 (i * n) n _ (omega arith) w j (omega arith) (omega arith)
        ∙ ap (λ j. get_or row j 0) z ∙ ap (λ y. get_or y j 0) is
        ∙ get_or-times q n x (rows_of (length x) n right) j b
        ∙ ap (λ c. sum_to q c (λ u. mul q (get_or x u 0) (entry (rows_of (length x) n right) u j))) (length-rows_of (length x) n right ∙ size)
        ∙ sum-same q k _ _ (λ u v. ap (λ y. mul q y (entry (rows_of (length x) n right) u j)) (part u v) ∙ ap (mul q (cell k left i u)) (cell-entry (length x) n right u j (omega (arith, size, v)) b))
        ∙ ap (λ t. sum_to q k (λ u. mul q (cell k left t u) (cell n right u j))) (sym s)
  ];
}

-- what is written is a matrix over the field
pub HasProductRows-elements : (q : Gf) (m k n : ℕ) (a e : ℕ → ℕ → ℕ) (s : List ℕ) → length s ≡ m * n → HasProductRows q k n m a e (cell n s) → AreElements q s
HasProductRows-elements q m k n a e s size h = record {
  small = λ p. elim (cases_lt p (m * n)) [
    | inl l ↦ within p l
    | inr l ↦ rw (get_or_past s p 0 (omega (arith, size, l))) (order-pos q)
  ];
}
  where
    some : (p : ℕ) → p < m * n → 0 < n
    some p l = elim (cases_eq n 0) [
      | inl z ↦ absurd (let e : m * n ≡ 0 = ap (λ n. m * n) z ∙ omega arith in omega arith)
      | inr ne ↦ omega arith
    ]

    within : (p : ℕ) → p < m * n → get_or s p 0 < order q
    within p l =
        let pos = some p l in
        let at : p / n * n + p % n ≡ p = omega arith in
        let e : get_or s p 0 ≡ sum_to q k (λ u. mul q (a (p / n) u) (e u (p % n))) = ap (λ p. get_or s p 0) (sym at) ∙ sym (cell-is n s (p / n) (p % n)) ∙ h.done (p / n) (p % n) (div_below p n m pos l) (mod_below p n pos) in
        rw e (sum_below q k _)

-- the rows of the product
pub rows_of-product : (q : Gf) (m k n : ℕ) (left right s : List ℕ) → HasProductRows q k n m (cell k left) (cell n right) (cell n s) → rows_of m n s ≡ product q n (rows_of m k left) (rows_of k n right)
rows_of-product q m k n left right s h =
    let count : length (product q n (rows_of m k left) (rows_of k n right)) ≡ m = length-product q n (rows_of m k left) (rows_of k n right) ∙ length-rows_of m k left in
    rows_same m n _ _ (length-rows_of m n s) count
    (λ i l. ap length (row-rows_of m n s i l) ∙ length-list_of n _)
    (λ i l. ap length (row-product q n (rows_of m k left) (rows_of k n right) i (let c = length-rows_of m k left in omega arith)) ∙ length-times q n _ _)
    (λ i j l v.
    cell-entry m n s i j l v ∙ h.done i j l v
    ∙ sum-same q k _ _ (λ t w. ap (λ y. mul q y (cell n right t j)) (sym (cell-entry m k left i t l w)) ∙ ap (mul q (entry (rows_of m k left) i t)) (sym (cell-entry k n right t j w v)))
    ∙ ap (λ c. sum_to q c (λ t. mul q (entry (rows_of m k left) i t) (entry (rows_of k n right) t j))) (sym (length-rows_of k n right))
    ∙ sym (entry-product q n (rows_of m k left) (rows_of k n right) i j (let c = length-rows_of m k left in omega arith) v))

pub rows_of-transposed : (m n : ℕ) (s t : List ℕ) (f : ℕ → ℕ → ℕ) → HasColumns n 0 m (cell n s) f (cell m t) → rows_of n m t ≡ transposed m n (rows_of m n s)
unfolding rows_of transposed
rows_of-transposed m n s t f h = list_of-same n _ _ [] (λ j l. list_of-same m _ _ 0 (λ i k. let z : 0 + i ≡ i = omega arith in sym (cell-is m t j i) ∙ ap (cell m t j) (sym z) ∙ h.done i j k l ∙ sym (cell-entry m n s i j k l)))

-- the rows of one slice behind another
pub cell-append : (m n : ℕ) (s t : List ℕ) (i j : ℕ) → length s ≡ m * n → cell n (s ++ t) (m + i) j ≡ cell n t i j
cell-append m n s t i j e =
    let p : (m + i) * n + j ≡ length s + (i * n + j) = omega (arith, add-mul m i n) in
    cell-is n (s ++ t) (m + i) j ∙ ap (λ k. get_or (s ++ t) k 0) p ∙ get_or-append-add s t (i * n + j) 0 ∙ sym (cell-is n t i j)

pub cell-append_first : (m n : ℕ) (s t : List ℕ) (i j : ℕ) → length s ≡ m * n → i < m → j < n → cell n (s ++ t) i j ≡ cell n s i j
cell-append_first m n s t i j e h k =
    let inside = mul-add-lt i n j m h k in
    cell-is n (s ++ t) i j ∙ get_or_append_left s t 0 (i * n + j) (omega arith) ∙ sym (cell-is n s i j)

pub rows_of-append : (m k n : ℕ) (s t : List ℕ) → length s ≡ m * n → rows_of (m + k) n (s ++ t) ≡ rows_of m n s ++ rows_of k n t
rows_of-append m k n s t e =
    let first = length-rows_of m n s in
    let second = length-rows_of k n t in
    let whole = length-rows_of (m + k) n (s ++ t) in
    let both = length-append (rows_of m n s) (rows_of k n t) in
    ext_get_or [] _ _ (omega arith) (λ i l. elim (cases_lt i m) [
      | inl b ↦
          row-rows_of (m + k) n (s ++ t) i (omega arith)
          ∙ list_of-same n _ _ 0 (λ j c. sym (cell-is n (s ++ t) i j) ∙ cell-append_first m n s t i j e b c ∙ cell-is n s i j)
          ∙ sym (row-rows_of m n s i b) ∙ sym (get_or_append_left (rows_of m n s) (rows_of k n t) [] i (omega arith))
      | inr b ↦
          let place : m + (i - m) ≡ i = omega arith in
          row-rows_of (m + k) n (s ++ t) i (omega arith)
          ∙ list_of-same n _ _ 0 (λ j c. ap (λ i. get_or (s ++ t) (i * n + j) 0) (sym place) ∙ sym (cell-is n (s ++ t) (m + (i - m)) j) ∙ cell-append m n s t (i - m) j e ∙ cell-is n t (i - m) j)
          ∙ sym (row-rows_of k n t (i - m) (omega arith)) ∙ sym (get_or-append_right (rows_of m n s) (rows_of k n t) m i [] first b)
    ])
