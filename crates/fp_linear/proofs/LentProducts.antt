-- Clearing a row by reduced rows, and multiplying a row by a matrix, row by row.
use Rattle.std.proofs.Common.{ℕ, ◌<◌, ◌≤◌, ◌≡◌, ◌+◌, ◌*◌, ◌-◌, List, [], length, get_or, take, drop, sym, ap, ap₂, ◌∙◌, arith, add-one, mul-le-mul_right}
use Rattle.std.proofs.lemmas.List.{ext_get_or, get_or-take, get_or-drop, get_or-map}
use Rattle.linear_algebra.specs.Field.{Gf, add, mul, neg, sub}
use Rattle.linear_algebra.specs.FieldLaws.{mul_zero, sub_def, neg-add, neg_mul, add_assoc, neg_zero, add_zero}
use Rattle.linear_algebra.specs.Sums.{sum_to, sum-none, sum-suc, sum-same, sum-zeros}
use Rattle.linear_algebra.specs.Rows.{entry, rows_of, times}
use Rattle.linear_algebra.specs.Reduced.{IsReduced, leading, pivot, pivots_of, at_pivots, remainder}
use Rattle.linear_algebra.proofs.Rows.{length-list_of, get_or-list_of, get_or-times, length-times, entry-rows_of}
use Rattle.linear_algebra.proofs.ReducedSpans.{get_or-remainder}
use Rattle.fp_linear.specs.Slices.{AreElements, plus_multiple}
use Rattle.fp_linear.specs.Elimination.{IsClearedOf, IsProductOf}
use Rattle.fp_linear.proofs.Slices.{plus-at}

-- row i ends where it has room
pub row_fits : (m n i : ℕ) (s : List ℕ) → length s ≡ m * n → i < m → i * n + n ≤ length s
row_fits m n i s e h = let k = mul-le-mul_right n (let o : i + 1 ≤ m = omega (arith, h) in o) in omega (arith, e, k)

-- the part of a slice that is its row i
pub row_part : (m n i j : ℕ) (s : List ℕ) → i < m → j < n → get_or (take (i * n + n - i * n) (drop (i * n) s)) j 0 ≡ entry (rows_of m n s) i j
row_part m n i j s h l = get_or-take _ _ j 0 (omega (arith, l)) ∙ get_or-drop (i * n) s j 0 ∙ sym (entry-rows_of m n s i j h l)

sub_zero : (q : Gf) (x : List ℕ) (j : ℕ) → AreElements q x → sub q (get_or x j 0) 0 ≡ get_or x j 0
sub_zero q x j a = sub_def q _ 0 ∙ ap (add q _) (neg_zero q) ∙ add_zero q _ (a.small j)

pub IsClearedOf-none : (q : Gf) (n : ℕ) (rows : List (List ℕ)) (x : List ℕ) → AreElements q x → IsClearedOf q n 0 rows x x
IsClearedOf-none q n rows x a = record { at = λ j l. sym (ap (sub q (get_or x j 0)) (sum-none q _) ∙ sub_zero q x j a) }

pub IsClearedOf-more : (q : Gf) (n k factor : ℕ) (rows : List (List ℕ)) (x y new src : List ℕ) → AreElements q x → IsReduced n rows → k < length rows → length y ≡ n
    → ((j : ℕ) → j < n → get_or src j 0 ≡ entry rows k j) → factor ≡ neg q (get_or y (pivot rows k) 0) → new ≡ plus_multiple q factor src y → IsClearedOf q n k rows x y → IsClearedOf q n (k + 1) rows x new
IsClearedOf-more q n k factor rows x y new src a r hk size row fac e h = record {
  at = λ j l.
      ap (λ s. get_or s j 0) e ∙ plus-at q factor src y j (omega (arith, size, l))
      ∙ ap₂ (λ f s. add q (get_or y j 0) (mul q f s)) (fac ∙ ap (neg q) at_pivot) (row j l)
      ∙ ap (add q (get_or y j 0)) (neg_mul q (get_or x (pivot rows k) 0) (entry rows k j))
      ∙ ap (λ b. add q b (neg q (mul q (get_or x (pivot rows k) 0) (entry rows k j)))) (h.at j l ∙ sub_def q (get_or x j 0) (sum_to q k (λ i. mul q (get_or x (pivot rows i) 0) (entry rows i j))))
      ∙ add_assoc q _ _ _ ∙ ap (add q (get_or x j 0)) (sym (neg-add q _ _)) ∙ sym (sub_def q _ _)
      ∙ ap (sub q (get_or x j 0)) (sym (ap (λ c. sum_to q c (λ i. mul q (get_or x (pivot rows i) 0) (entry rows i j))) (add-one k) ∙ sum-suc q k _));
}
  where
    at_pivot : get_or y (pivot rows k) 0 ≡ get_or x (pivot rows k) 0
    at_pivot = h.at (pivot rows k) (r.nonzero k hk)
        ∙ ap (sub q (get_or x (pivot rows k) 0)) (sum-zeros q k _ (λ i l. ap (mul q (get_or x (pivot rows i) 0)) (r.cleared k i hk (omega arith) (λ s. omega arith)) ∙ mul_zero q _)) ∙ sub_zero q x _ a

pub IsClearedOf-remainder : (q : Gf) (n m : ℕ) (rows : List (List ℕ)) (x y : List ℕ) → length rows ≡ m → length y ≡ n → IsClearedOf q n m rows x y → y ≡ remainder q n rows x
unfolding remainder at_pivots
IsClearedOf-remainder q n m rows x y count size h = ext_get_or 0 _ _ (size ∙ sym (length-list_of n _)) (λ j l.
    h.at j (omega arith) ∙ ap (sub q (get_or x j 0))
    (ap (λ c. sum_to q c (λ i. mul q (get_or x (pivot rows i) 0) (entry rows i j))) (sym count)
    ∙ sum-same q (length rows) _ _ (λ i b. ap (λ z. mul q z (entry rows i j)) (sym (get_or-list_of (length rows) _ i 0 b)))
    ∙ sym (get_or-times q n (at_pivots rows x) rows j (omega arith)))
    ∙ sym (get_or-remainder q n rows x j (omega arith)))

-- the pivots as numbers
pub pivot_at : (rows : List (List ℕ)) (pivots : List ℕ) (i : ℕ) → pivots ≡ pivots_of rows → i < length rows → get_or pivots i 0 ≡ pivot rows i
unfolding pivots_of
pivot_at rows pivots i e l = ap (λ p. get_or p i 0) e ∙ get_or-map leading rows i [] 0 l

pub IsProductOf-none : (q : Gf) (n : ℕ) (x : List ℕ) (rows : List (List ℕ)) (y : List ℕ) → ((j : ℕ) → j < n → get_or y j 0 ≡ 0) → IsProductOf q n 0 x rows y
IsProductOf-none q n x rows y z = record { at = λ j l. z j l ∙ sym (sum-none q _) }

pub IsProductOf-more : (q : Gf) (n k factor : ℕ) (x : List ℕ) (rows : List (List ℕ)) (y new src : List ℕ) → length y ≡ n → ((j : ℕ) → j < n → get_or src j 0 ≡ entry rows k j) → factor ≡ get_or x k 0
    → new ≡ plus_multiple q factor src y → IsProductOf q n k x rows y → IsProductOf q n (k + 1) x rows new
IsProductOf-more q n k factor x rows y new src size row fac e h = record {
  at = λ j l.
      ap (λ s. get_or s j 0) e ∙ plus-at q factor src y j (omega (arith, size, l))
      ∙ ap₂ (λ f s. add q (get_or y j 0) (mul q f s)) fac (row j l)
      ∙ ap (λ b. add q b (mul q (get_or x k 0) (entry rows k j))) (h.at j l)
      ∙ sym (ap (λ c. sum_to q c (λ i. mul q (get_or x i 0) (entry rows i j))) (add-one k) ∙ sum-suc q k _);
}

pub IsProductOf-times : (q : Gf) (n m : ℕ) (x : List ℕ) (rows : List (List ℕ)) (y : List ℕ) → length rows ≡ m → length y ≡ n → IsProductOf q n m x rows y → y ≡ times q n x rows
IsProductOf-times q n m x rows y count size h = ext_get_or 0 _ _ (size ∙ sym (length-times q n x rows)) (λ j l.
    h.at j (omega arith) ∙ ap (λ c. sum_to q c (λ i. mul q (get_or x i 0) (entry rows i j))) (sym count) ∙ sym (get_or-times q n x rows j (omega arith)))
