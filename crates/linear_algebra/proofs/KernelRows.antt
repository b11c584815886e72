-- The kernel of a matrix from the reduced row form of the matrix with the identity to its right.
use Rattle.std.proofs.Common.{ℕ, ◌<◌, ◌≤◌, ◌≡◌, ◌%◌, inl, inr, ◌+◌, ◌-◌, List, length, get_or, cond, ltb, refl, sym, ap, ◌∙◌, arith, mod-eq_of_lt}
use Rattle.std.proofs.lemmas.Bool.{cases_lt, lt-ltb, le-ltb}
use Rattle.std.proofs.lemmas.Bool.Decides.{eqb_tells}
use Rattle.linear_algebra.specs.Field.{Gf, order, add, mul}
use Rattle.linear_algebra.specs.FieldLaws.{zero_mul, mul_zero, mul-mod_left, mul_one-mod, mod-mul, zero_add}
use Rattle.linear_algebra.specs.Sums.{sum_to, sum-zeros, sum-same, sum-single, sum-split, sum_below}
use Rattle.linear_algebra.specs.Rows.{list_of, entry, IsRow, zeros, times, IsInSpan, SameSpan}
use Rattle.linear_algebra.specs.Kernels.{IsExtended, AreEnds, IsKernel}
use Rattle.linear_algebra.specs.Reduced.{pivot, IsReduced}
use Rattle.linear_algebra.proofs.Rows.{get_or-list_of, list_of-is, times-is, get_or-times, length-times}
use Rattle.linear_algebra.proofs.Reduced.{HasPivots, HasPivots-reduced, IsReduced-from_pivots}
use Rattle.linear_algebra.proofs.ReducedSpans.{times-at_pivot}

pub get_or-zeros : (n j : ℕ) → j < n → get_or (zeros n) j 0 ≡ 0
unfolding zeros
get_or-zeros n j h = get_or-list_of n _ j 0 h

pub zeros-is : (n : ℕ) (x : List ℕ) → length x ≡ n → ((j : ℕ) → j < n → get_or x j 0 ≡ 0) → x ≡ zeros n
unfolding zeros
zeros-is n x e h = list_of-is n (λ _. 0) x 0 e h

-- combinations of the rows of the wide matrix
left-times : (q : Gf) (m n : ℕ) (a wide : List (List ℕ)) (d : List ℕ) (j : ℕ) → IsExtended q m n a wide → j < n → get_or (times q (n + m) d wide) j 0 ≡ get_or (times q n d a) j 0
left-times q m n a wide d j h l =
    get_or-times q (n + m) d wide j (omega arith)
    ∙ ap (λ c. sum_to q c (λ i. mul q (get_or d i 0) (entry wide i j))) h.grid.count
    ∙ sum-same q m _ _ (λ i b. ap (mul q (get_or d i 0)) (h.left i j b l))
    ∙ ap (λ c. sum_to q c (λ i. mul q (get_or d i 0) (entry a i j))) (sym h.count)
    ∙ sym (get_or-times q n d a j l)

right-times : (q : Gf) (m n : ℕ) (a wide : List (List ℕ)) (d : List ℕ) (j : ℕ) → IsExtended q m n a wide → j < m → get_or (times q (n + m) d wide) (n + j) 0 ≡ get_or d j 0 % order q
right-times q m n a wide d j h l =
    get_or-times q (n + m) d wide (n + j) (omega arith)
    ∙ ap (λ c. sum_to q c (λ i. mul q (get_or d i 0) (entry wide i (n + j)))) h.grid.count
    ∙ sum-single q m j _ l (λ i b ne. elim (eqb_tells i j) [
      | inl e ↦ absurd (ne e.1)
      | inr e ↦ ap (mul q (get_or d i 0)) (h.right i j b l ∙ ap (λ t. cond t 1 0) e.0) ∙ mul_zero q _
    ])
    ∙ mod-mul q _ _
    ∙ elim (eqb_tells j j) [
      | inl e ↦ ap (mul q (get_or d j 0)) (h.right j j l l ∙ ap (λ t. cond t 1 0) e.0) ∙ mul_one-mod q (get_or d j 0)
      | inr e ↦ absurd (e.1 refl)
    ]

-- a sum of which the first terms vanish
sum-ends : (q : Gf) (r l : ℕ) (f : ℕ → ℕ) → l ≤ r → ((i : ℕ) → i < l → f i ≡ 0) → sum_to q r f ≡ sum_to q (r - l) (λ a. f (l + a))
sum-ends q r l f h z =
    let e : r ≡ l + (r - l) = omega arith in
    ap (λ n. sum_to q n f) e ∙ sum-split q l (r - l) f ∙ ap (λ s. add q s (sum_to q (r - l) (λ a. f (l + a)))) (sum-zeros q l f z) ∙ zero_add q _ (sum_below q _ _)

pub IsReduced-ends : (q : Gf) (m n r l : ℕ) (reduced k : List (List ℕ)) → AreEnds q m n r l reduced k → IsReduced m k
IsReduced-ends q m n r l reduced k h =
    IsReduced-from_pivots q (r - l) m k (λ a. pivot reduced (l + a) - n) h.kernel
    record {
      inside = λ a b. let p = h.form.nonzero (l + a) (up a b) in let t = at a b in omega arith;
      one = λ a b. h.ends a _ (low a b) (within a b) ∙ ap (entry reduced (l + a)) (back a b) ∙ h.form.one (l + a) (up a b);
      before = λ a j b c. let t = at a b in let w = within a b in h.ends a j (low a b) (omega arith) ∙ p.before (l + a) (n + j) (up a b) (omega arith);
      further = λ a b c d. let f = h.form.further (l + a) (l + b) (omega arith) (up b d) in let t = at b d in let u = at a (omega arith) in omega arith;
      cleared = λ a b c d e. h.ends b _ (low b d) (within a c) ∙ ap (entry reduced (l + b)) (back a c) ∙ h.form.cleared (l + a) (l + b) (up a c) (up b d) (λ s. omega arith);
    }
  where
    p : HasPivots (n + m) reduced (pivot reduced)
    p = HasPivots-reduced (n + m) reduced h.form

    low : (a : ℕ) → a < length k → a < r - l
    low a b = let c = h.kernel.count in omega arith

    up : (a : ℕ) → a < length k → l + a < length reduced
    up a b = let c = h.kernel.count in let d = h.grid.count in omega arith

    at : (a : ℕ) → a < length k → n ≤ pivot reduced (l + a)
    at a b = h.behind (l + a) (omega arith) (let c = h.kernel.count in omega arith)

    within : (a : ℕ) → a < length k → pivot reduced (l + a) - n < m
    within a b = let t = at a b in let u = h.form.nonzero (l + a) (up a b) in omega arith

    back : (a : ℕ) → a < length k → n + (pivot reduced (l + a) - n) ≡ pivot reduced (l + a)
    back a b = let t = at a b in omega arith

-- a combination of the kernel's rows is mapped to zero
pub kernel-sound : (q : Gf) (m n r l : ℕ) (a wide reduced k : List (List ℕ)) → IsExtended q m n a wide → AreEnds q m n r l reduced k → SameSpan q (n + m) wide reduced
    → (x : List ℕ) → IsRow q m x → IsInSpan q m k x → times q n x a ≡ zeros n
kernel-sound q m n r l a wide reduced k h f s x w c =
    zeros-is n (times q n x a) (length-times q n x a) (λ j b.
    get_or-times q n x a j b
    ∙ sum-same q (length a) _ _ (λ i t. ap (λ v. mul q v (entry a i j)) (coefficient i (let e = h.count in omega arith)) ∙ mul-mod_left q _ _)
    ∙ sym (get_or-times q n back.0 a j b) ∙ sym (left-times q m n a wide back.0 j h b) ∙ ap (λ y. get_or y j 0) back.1 ∙ front j b)
  where
    p : HasPivots (n + m) reduced (pivot reduced)
    p = HasPivots-reduced (n + m) reduced f.form

    d : List ℕ
    d = list_of r (λ i. cond (ltb i l) 0 (get_or c.0 (i - l) 0))

    y : List ℕ
    y = times q (n + m) d reduced

    low : (i : ℕ) → i < l → get_or d i 0 ≡ 0
    low i b = get_or-list_of r _ i 0 (let e = f.fits in omega arith) ∙ ap (λ t. cond t 0 (get_or c.0 (i - l) 0)) (lt-ltb i l b)

    high : (t : ℕ) → t < r - l → get_or d (l + t) 0 ≡ get_or c.0 t 0
    high t b =
        let e : l + t - l ≡ t = omega arith in
        get_or-list_of r _ (l + t) 0 (omega arith) ∙ ap (λ b. cond b 0 (get_or c.0 (l + t - l) 0)) (le-ltb (l + t) l (omega arith)) ∙ ap (λ i. get_or c.0 i 0) e

    front : (j : ℕ) → j < n → get_or y j 0 ≡ 0
    front j b = get_or-times q (n + m) d reduced j (omega arith) ∙ sum-zeros q (length reduced) _ (λ i t. elim (cases_lt i l) [
      | inl u ↦ ap (λ v. mul q v (entry reduced i j)) (low i u) ∙ zero_mul q _
      | inr u ↦ ap (mul q (get_or d i 0)) (p.before i j t (let e = f.behind i u (let g = f.grid.count in omega arith) in omega arith)) ∙ mul_zero q _
    ])

    end : (j : ℕ) → j < m → get_or y (n + j) 0 ≡ get_or x j 0
    end j b =
        get_or-times q (n + m) d reduced (n + j) (omega arith)
        ∙ ap (λ t. sum_to q t (λ i. mul q (get_or d i 0) (entry reduced i (n + j)))) f.grid.count
        ∙ sum-ends q r l _ f.fits (λ i u. ap (λ v. mul q v (entry reduced i (n + j))) (low i u) ∙ zero_mul q _)
        ∙ sum-same q (r - l) _ _ (λ t u. ap (λ v. mul q v (entry reduced (l + t) (n + j))) (high t u) ∙ ap (mul q (get_or c.0 t 0)) (sym (f.ends t j u b)))
        ∙ ap (λ t. sum_to q t (λ i. mul q (get_or c.0 i 0) (entry k i j))) (sym f.kernel.count)
        ∙ sym (get_or-times q m c.0 k j b) ∙ ap (λ y. get_or y j 0) c.1

    back : IsInSpan q (n + m) wide y
    back = s.back y (d, refl)

    coefficient : (i : ℕ) → i < m → get_or x i 0 ≡ get_or back.0 i 0 % order q
    coefficient i b = sym (end i b) ∙ sym (ap (λ y. get_or y (n + i) 0) back.1) ∙ right-times q m n a wide back.0 i h b

-- a row that is mapped to zero is a combination of them
pub kernel-complete : (q : Gf) (m n r l : ℕ) (a wide reduced k : List (List ℕ)) → IsExtended q m n a wide → AreEnds q m n r l reduced k → SameSpan q (n + m) wide reduced
    → (x : List ℕ) → IsRow q m x → times q n x a ≡ zeros n → IsInSpan q m k x
kernel-complete q m n r l a wide reduced k h f s x w z = (
  list_of (r - l) (λ t. get_or found.0 (l + t) 0),
  times-is q m _ k x w.count (λ j b.
      ap (λ t. sum_to q t (λ i. mul q (get_or (list_of (r - l) (λ t. get_or found.0 (l + t) 0)) i 0) (entry k i j))) f.kernel.count
      ∙ sum-same q (r - l) _ _ (λ t u. ap (λ v. mul q v (entry k t j)) (get_or-list_of (r - l) _ t 0 u) ∙ ap (mul q (get_or found.0 (l + t) 0)) (f.ends t j u b))
      ∙ sym (sum-ends q r l (λ i. mul q (get_or found.0 i 0) (entry reduced i (n + j))) f.fits (λ i u. sym (mul-mod_left q (get_or found.0 i 0) (entry reduced i (n + j))) ∙ ap (λ v. mul q v (entry reduced i (n + j))) (vanishes i u) ∙ zero_mul q _))
      ∙ ap (λ t. sum_to q t (λ i. mul q (get_or found.0 i 0) (entry reduced i (n + j)))) (sym f.grid.count)
      ∙ sym (get_or-times q (n + m) found.0 reduced (n + j) (omega arith))
      ∙ ap (λ y. get_or y (n + j) 0) found.1
      ∙ right-times q m n a wide x j h b ∙ mod-eq_of_lt (w.small j)),
)
  where
    found : IsInSpan q (n + m) reduced (times q (n + m) x wide)
    found = s.forth (times q (n + m) x wide) (x, refl)

    vanishes : (i : ℕ) → i < l → get_or found.0 i 0 % order q ≡ 0
    vanishes i u =
        let inside : i < length reduced = (let e = f.grid.count in let g = f.fits in omega arith) in
        let column = f.before i u in
        sym (times-at_pivot q r (n + m) reduced found.0 i f.grid f.form inside) ∙ ap (λ y. get_or y (pivot reduced i) 0) found.1
        ∙ left-times q m n a wide x (pivot reduced i) h column ∙ ap (λ y. get_or y (pivot reduced i) 0) z ∙ get_or-zeros n (pivot reduced i) column

pub IsKernel-ends : (q : Gf) (m n r l : ℕ) (a wide reduced k : List (List ℕ)) → IsExtended q m n a wide → AreEnds q m n r l reduced k → SameSpan q (n + m) wide reduced → IsKernel q m n a k
IsKernel-ends q m n r l a wide reduced k h f s = record {
  reduced = IsReduced-ends q m n r l reduced k f;
  all = λ x w. (kernel-sound q m n r l a wide reduced k h f s x w, kernel-complete q m n r l a wide reduced k h f s x w);
}
