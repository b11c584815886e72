-- Solving x · a = y by the reduced row form of the equations.
use Rattle.std.proofs.Common.{ℕ, zero, suc, ◌<◌, ◌≤◌, ◌≡◌, ◌≢◌, ◌⊎◌, inl, inr, ◌+◌, ◌-◌, List, [], length, get_or, cond, eqb, ltb, refl, sym, ap, ◌∙◌, arith}
use Rattle.std.proofs.lemmas.Bool.{cases_lt, cases_eq, lt-ltb, le-ltb}
use Rattle.std.proofs.lemmas.Bool.Decides.{eqb_tells}
use Rattle.linear_algebra.specs.Field.{Gf, order, add, mul, neg}
use Rattle.linear_algebra.specs.FieldLaws.{zero_mul, mul_zero, mul_comm, mul_assoc, one_mul, mul_one-mod, mod-mul, neg-mod, mul_neg, zero_add, add_zero, add_neg, neg_below, sub_def, sub_eq_zero, one-lt-order}
use Rattle.linear_algebra.specs.Sums.{sum_to, sum-zeros, sum-same, sum-single, sum-split, sum_below, sum-mul, mul-sum, sum-swap}
use Rattle.linear_algebra.specs.Rows.{entry, IsGrid, product, IsInSpan, SameSpan}
use Rattle.linear_algebra.specs.Reduced.{pivot, IsReduced}
use Rattle.linear_algebra.specs.RowSolutions.{IsSolution, AreEquations, IsReadFrom}
use Rattle.linear_algebra.proofs.Rows.{get_or-times, row-entry, rows_same, length-product, row-product, length-times, entry-product, IsInSpan-row}
use Rattle.linear_algebra.proofs.Reduced.{HasPivots, HasPivots-reduced}

-- what sends each row to zero sends their combinations to zero
pub IsInSpan-sent : (q : Gf) (n : ℕ) (rows : List (List ℕ)) (v : ℕ → ℕ) → ((i : ℕ) → i < length rows → sum_to q n (λ j. mul q (entry rows i j) (v j)) ≡ 0) → (x : List ℕ) → IsInSpan q n rows x
    → sum_to q n (λ j. mul q (get_or x j 0) (v j)) ≡ 0
IsInSpan-sent q n rows v h x s =
    sum-same q n _ _ (λ j l.
    ap (λ y. mul q y (v j)) (sym (ap (λ y. get_or y j 0) s.1) ∙ get_or-times q n s.0 rows j l)
    ∙ sum-mul q (length rows) (v j) _)
    ∙ sum-swap q n (length rows) (λ j i. mul q (mul q (get_or s.0 i 0) (entry rows i j)) (v j))
    ∙ sum-zeros q (length rows) _ (λ i l.
    sum-same q n _ _ (λ j b. mul_assoc q (get_or s.0 i 0) (entry rows i j) (v j))
    ∙ sym (mul-sum q n (get_or s.0 i 0) (λ j. mul q (entry rows i j) (v j)))
    ∙ ap (mul q (get_or s.0 i 0)) (h i l) ∙ mul_zero q _)

-- row l of x, followed by the negative of unit row l
test_row : Gf → ℕ → (ℕ → ℕ → ℕ) → ℕ → ℕ → ℕ
test_row q m x l j = cond (ltb j m) (x l j) (cond (eqb (j - m) l) (neg q 1) 0)

test-left : (q : Gf) (m : ℕ) (x : ℕ → ℕ → ℕ) (l j : ℕ) → j < m → test_row q m x l j ≡ x l j
unfolding test_row
test-left q m x l j h = ap (λ b. cond b (x l j) (cond (eqb (j - m) l) (neg q 1) 0)) (lt-ltb j m h)

test-right : (q : Gf) (m : ℕ) (x : ℕ → ℕ → ℕ) (l t : ℕ) → test_row q m x l (m + t) ≡ cond (eqb t l) (neg q 1) 0
unfolding test_row
test-right q m x l t =
    let e : m + t - m ≡ t = omega arith in
    ap (λ b. cond b (x l (m + t)) (cond (eqb (m + t - m) l) (neg q 1) 0)) (le-ltb (m + t) m (omega arith)) ∙ ap (λ u. cond (eqb u l) (neg q 1) 0) e

-- an equation at that row: its left side at row l of x, less its right side
test-equation : (q : Gf) (m k : ℕ) (r : ℕ → ℕ) (x : ℕ → ℕ → ℕ) (l : ℕ) → l < k → sum_to q (m + k) (λ j. mul q (r j) (test_row q m x l j)) ≡ add q (sum_to q m (λ j. mul q (r j) (x l j))) (neg q (r (m + l)))
test-equation q m k r x l h =
    sum-split q m k _
    ∙ ap (λ s. add q s (sum_to q k (λ t. mul q (r (m + t)) (test_row q m x l (m + t))))) (sum-same q m _ _ (λ j b. ap (mul q (r j)) (test-left q m x l j b)))
    ∙ ap (add q (sum_to q m (λ j. mul q (r j) (x l j))))
    (sum-single q k l _ h (λ t b d. elim (eqb_tells t l) [
      | inl e ↦ absurd (d e.1)
      | inr e ↦ ap (mul q (r (m + t))) (test-right q m x l t ∙ ap (λ b. cond b (neg q 1) 0) e.0) ∙ mul_zero q _
    ])
    ∙ mod-mul q _ _
    ∙ elim (eqb_tells l l) [
      | inl e ↦ ap (mul q (r (m + l))) (test-right q m x l l ∙ ap (λ b. cond b (neg q 1) 0) e.0) ∙ mul_neg q (r (m + l)) 1 ∙ ap (neg q) (mul_one-mod q (r (m + l))) ∙ neg-mod q (r (m + l))
      | inr e ↦ absurd (e.1 refl)
    ])

sum_equal : (q : Gf) (a b : ℕ) → a < order q → b < order q → add q a (neg q b) ≡ 0 → a ≡ b
sum_equal q a b h k e = sub_eq_zero q a b h k (sub_def q a b ∙ e)

-- each column is a pivot or none
pub pivot_or_none : (r : ℕ) (p : ℕ → ℕ) (j : ℕ) → ((a : ℕ) × (a < r) × (p a ≡ j)) ⊎ ((a : ℕ) → a < r → p a ≢ j)
pivot_or_none zero p j = inr (λ a h. absurd (omega arith))
pivot_or_none (suc r) p j = elim (cases_eq (p r) j) [
  | inl e ↦ inl (r, omega arith, e)
  | inr d ↦ elim (pivot_or_none r p j) [
    | inl f ↦ inl (f.0, (let b = f.1 in omega arith), f.2)
    | inr n ↦ inr (λ a h. elim (cases_lt a r) [ inl l ↦ n a l | inr l ↦ λ e. d (ap p (let s : r ≡ a = omega arith in s) ∙ e) ])
  ]
]

-- what is read from the reduced equations is a solution, where no pivot stands behind column m
pub solve-sound : (q : Gf) (m k n r : ℕ) (a y wide reduced x : List (List ℕ)) → IsGrid q m n a → IsGrid q k n y → AreEquations q m k n a y wide → IsGrid q r (m + k) reduced → IsReduced (m + k) reduced
    → SameSpan q (m + k) wide reduced → ((i : ℕ) → i < r → pivot reduced i < m) → IsGrid q k m x → IsReadFrom m k r (pivot reduced) (entry reduced) (entry x) → IsSolution q k m n a y x
solve-sound q m k n r a y wide reduced x ga gy eq gr form span left gx read = record {
  grid = gx;
  solves = rows_same k n (product q n x a) y (length-product q n x a ∙ gx.count) gy.count (λ i l. ap length (row-product q n x a i (let c = gx.count in omega arith)) ∙ length-times q n _ a) gy.width (λ l t b d.
      entry-product q n x a l t (let c = gx.count in omega arith) d
      ∙ ap (λ c. sum_to q c (λ j. mul q (entry x l j) (entry a j t))) ga.count
      ∙ sum-same q m _ _ (λ j u. mul_comm q (entry x l j) (entry a j t) ∙ ap (λ z. mul q z (entry x l j)) (sym (eq.coefficient t j d u)))
      ∙ sum_equal q _ (entry wide t (m + l)) (sum_below q m _) (eq.grid.small t (m + l)) (sym (test-equation q m k (entry wide t) (entry x) l b) ∙ equation l t b d)
      ∙ eq.constant t l d b);
}
  where
    p : HasPivots (m + k) reduced (pivot reduced)
    p = HasPivots-reduced (m + k) reduced form

    held : (l i : ℕ) → l < k → i < r → sum_to q (m + k) (λ j. mul q (entry reduced i j) (test_row q m (entry x) l j)) ≡ 0
    held l i b h =
        test-equation q m k (entry reduced i) (entry x) l b
        ∙ ap (λ s. add q s (neg q (entry reduced i (m + l))))
        (sum-single q m (pivot reduced i) _ (left i h) (λ j u d. elim (pivot_or_none r (pivot reduced) j) [
          | inl f ↦ ap (λ z. mul q z (entry x l j)) (ap (entry reduced i) (sym f.2) ∙ p.cleared f.0 i (let c = gr.count in let w = f.1 in omega arith) (let c = gr.count in omega arith) (λ e. d (sym f.2 ∙ ap (pivot reduced) (sym e)))) ∙ zero_mul q _
          | inr f ↦ ap (mul q (entry reduced i j)) (read.elsewhere l j b u f) ∙ mul_zero q _
        ])
        ∙ mod-mul q _ _
        ∙ ap (λ z. mul q z (entry x l (pivot reduced i))) (form.one i (let c = gr.count in omega arith)) ∙ ap (mul q 1) (read.at i l h b) ∙ one_mul q _ (gr.small i (m + l)))
        ∙ add_neg q (entry reduced i (m + l))

    equation : (l t : ℕ) → l < k → t < n → sum_to q (m + k) (λ j. mul q (entry wide t j) (test_row q m (entry x) l j)) ≡ 0
    equation l t b d =
        sum-same q (m + k) _ _ (λ j u. ap (λ z. mul q z (test_row q m (entry x) l j)) (sym (row-entry wide t j)))
        ∙ IsInSpan-sent q (m + k) reduced (test_row q m (entry x) l) (λ i h. held l i b (let c = gr.count in omega arith)) (get_or wide t []) (span.forth _ (IsInSpan-row q n (m + k) wide t eq.grid d))

-- and where one does, there is none
pub solve-none : (q : Gf) (m k n r i : ℕ) (a y wide reduced x : List (List ℕ)) → IsGrid q m n a → IsGrid q k n y → AreEquations q m k n a y wide → IsGrid q r (m + k) reduced → IsReduced (m + k) reduced
    → SameSpan q (m + k) wide reduced → i < r → m ≤ pivot reduced i → IsSolution q k m n a y x → ⊥
solve-none q m k n r i a y wide reduced x ga gy eq gr form span hi behind s =
    let c = gr.count in
    let l = pivot reduced i - m in
    let fits = form.nonzero i (omega arith) in
    let b : l < k = omega arith in
    let back : m + l ≡ pivot reduced i = omega arith in
    let none : sum_to q (m + k) (λ j. mul q (entry reduced i j) (test_row q m (entry x) l j)) ≡ 0 =
    sum-same q (m + k) _ _ (λ j u. ap (λ z. mul q z (test_row q m (entry x) l j)) (sym (row-entry reduced i j)))
    ∙ IsInSpan-sent q (m + k) wide (test_row q m (entry x) l) (λ t h. equation l t b (let e = eq.grid.count in omega arith)) (get_or reduced i []) (span.back _ (IsInSpan-row q r (m + k) reduced i gr hi)) in
    let first : sum_to q m (λ j. mul q (entry reduced i j) (entry x l j)) ≡ 0 = sum-zeros q m _ (λ j u. ap (λ z. mul q z (entry x l j)) (p.before i j (omega arith) (omega arith)) ∙ zero_mul q _) in
    let one : entry reduced i (m + l) ≡ 1 = ap (entry reduced i) back ∙ form.one i (omega arith) in
    let minus : neg q 1 ≡ 0 = sym (zero_add q _ (neg_below q 1)) ∙ ap (λ s. add q s (neg q 1)) (sym first) ∙ ap (λ z. add q (sum_to q m (λ j. mul q (entry reduced i j) (entry x l j))) (neg q z)) (sym one) ∙ sym (test-equation q m k (entry reduced i) (entry x) l b) ∙ none in
    let bad : ◌≡◌ {A = ℕ} 1 0 = sym (add_zero q 1 (one-lt-order q)) ∙ ap (add q 1) (sym minus) ∙ add_neg q 1 in
    omega arith
  where
    p : HasPivots (m + k) reduced (pivot reduced)
    p = HasPivots-reduced (m + k) reduced form

    equation : (l t : ℕ) → l < k → t < n → sum_to q (m + k) (λ j. mul q (entry wide t j) (test_row q m (entry x) l j)) ≡ 0
    equation l t b d =
        test-equation q m k (entry wide t) (entry x) l b
        ∙ ap (λ s. add q s (neg q (entry wide t (m + l))))
        (sum-same q m _ _ (λ j u. ap (λ z. mul q z (entry x l j)) (eq.coefficient t j d u) ∙ mul_comm q (entry a j t) (entry x l j))
        ∙ ap (λ c. sum_to q c (λ j. mul q (entry x l j) (entry a j t))) (sym ga.count)
        ∙ sym (entry-product q n x a l t (let c = s.grid.count in omega arith) d)
        ∙ ap (λ rows. entry rows l t) s.solves ∙ sym (eq.constant t l d b))
        ∙ add_neg q (entry wide t (m + l))
