-- A co-reduced matrix is determined by the rows that it takes to zero. With the reduced row form of these rows: each column is a pivot of the
-- one or a place of the other and never both, and the reduced rows with the unit rows at the places are a basis.
use Rattle.std.proofs.Common.{ℕ, zero, suc, ◌+◌, ◌<◌, ◌≤◌, ◌≡◌, ◌≢◌, ◌⊎◌, inl, inr, sym, ap, ap₂, ◌∙◌, arith, subst, not-suc-le-zero, le_antisymm}
use Rattle.std.proofs.lemmas.Bool.{cases_lt, cases_eq}
use Rattle.linear_algebra.specs.Field.{Gf, mul, sub}
use Rattle.linear_algebra.specs.FieldLaws.{sub_zero, zero_mul, mul_zero, mul_one, mod-mul, one-lt-order}
use Rattle.linear_algebra.specs.Sums.{sum-zeros, sum-single}
use Rattle.linear_algebra.specs.Matrix.{Mat, Row, Mat-eq_below, zeros, one, delta, delta-same, delta-other, delta_below, ◌⊞◌, ◌⊟◌, ◌·◌, transpose, stack, beside}
use Rattle.linear_algebra.specs.Parts.{row, unit}
use Rattle.linear_algebra.specs.Rank.{IsInSpan, HasInverse}
use Rattle.linear_algebra.specs.RowForm.{IsRowReduced, selector, IsCoReduced}
use Rattle.linear_algebra.proofs.MatrixLaws.{sub-at, sub_mul_mat, transpose-at, one-at, mul_assoc_mat, mul_one_mat, zeros_mul, sub_self_mat, sub_eq_zeros, sub_add_mat, transpose_mul, transpose_transpose}
use Rattle.linear_algebra.proofs.Blocks.{one_blocks, beside_stack}
use Rattle.linear_algebra.proofs.PartsLaws.{rows_equal, row-mul, row-at, row_zeros, unit_mul, unit-at}
use Rattle.linear_algebra.proofs.Products.{products, sums, blocks, pull}
use Rattle.linear_algebra.proofs.Search.{zero_or_not, search_or_all}
use Rattle.linear_algebra.proofs.Solving.{in_span_by_rows}
use Rattle.linear_algebra.proofs.Inverses.{right_inverse_square}
use Rattle.linear_algebra.proofs.Steinitz.{steinitz}
use Rattle.linear_algebra.proofs.RowForm.{selector-at, mul_selector-at, mul_selector}
use Rattle.linear_algebra.proofs.RowFormUnique.{first_at_pivot}
use Rattle.linear_algebra.proofs.CoReduced.{place_rows, place_rows_undo}

-- the last nonzero value below n
last_nonzero : (n : ℕ) (f : ℕ → ℕ) → ((i : ℕ) × (i < n) × (f i ≢ zero) × ((k : ℕ) → i < k → k < n → f k ≡ zero)) ⊎ ((i : ℕ) → i < n → f i ≡ zero)
last_nonzero zero f = inr (λ i h. absurd (not-suc-le-zero h))
last_nonzero (suc n) f = go (zero_or_not (f n)) (last_nonzero n f)
  where
    go : (f n ≢ zero) ⊎ (f n ≡ zero) → ((i : ℕ) × (i < n) × (f i ≢ zero) × ((k : ℕ) → i < k → k < n → f k ≡ zero)) ⊎ ((i : ℕ) → i < n → f i ≡ zero)
        → ((i : ℕ) × (i < suc n) × (f i ≢ zero) × ((k : ℕ) → i < k → k < suc n → f k ≡ zero)) ⊎ ((i : ℕ) → i < suc n → f i ≡ zero)
    go (inl x) r = inl (n, omega arith, x, λ k h l. absurd (omega arith))
    go (inr z) (inl r) =
        let (i, h, x, a) = r in
        inl (i, omega arith, x, λ k b l. elim (cases_lt k n) [ inl y ↦ a k b y | inr y ↦ let same : n ≡ k = omega arith in subst (λ k. f k ≡ zero) same z ])
    go (inr z) (inr r) = inr (λ i h. elim (cases_lt i n) [ inl y ↦ r i y | inr y ↦ let same : n ≡ i = omega arith in subst (λ k. f k ≡ zero) same z ])

-- Two increasing sequences with the same values agree.
among_le : (m : ℕ) (p r : ℕ → ℕ) (i : ℕ) → ((j k : ℕ) → j < k → k < m → p j < p k) → ((j k : ℕ) → j < k → k < m → r j < r k)
    → i < m → ((j : ℕ) → j < i → p j ≡ r j) → (k : ℕ) × (k < m) × (p k ≡ r i) → p i ≤ r i
among_le m p r i f g l before s =
    let (k, h, x) = s in
    elim (cases_lt k i) [
      | inl c ↦ let y = before k c in let z = g k i c l in omega arith
      | inr c ↦ elim (cases_eq i k) [
        | inl y ↦ let z : p i ≡ p k = ap p y in omega arith
        | inr y ↦ let z = f i k (omega arith) h in omega arith
      ]
    ]

agree_below : (m : ℕ) (p r : ℕ → ℕ) → ((j k : ℕ) → j < k → k < m → p j < p k) → ((j k : ℕ) → j < k → k < m → r j < r k)
    → ((i : ℕ) → i < m → (k : ℕ) × (k < m) × (r k ≡ p i)) → ((i : ℕ) → i < m → (k : ℕ) × (k < m) × (p k ≡ r i)) → (b i : ℕ) → i < b → i < m → p i ≡ r i
agree_below m p r f g s t zero i h l = absurd (not-suc-le-zero h)
agree_below m p r f g s t (suc b) i h l =
    le_antisymm
    (among_le m p r i f g l (λ j x. agree_below m p r f g s t b j (omega arith) (omega arith)) (t i l))
    (among_le m r p i g f l (λ j x. sym (agree_below m p r f g s t b j (omega arith) (omega arith))) (s i l))

-- Entries at the places.
pub place_rows-at : {q : Gf} {n k : ℕ} (c : ℕ) (place : ℕ → ℕ) (a : Mat q n k) (i j : ℕ) → i < c → place i < n → (place_rows q c n place · a).at i j ≡ a.at (place i) j
unfolding place_rows
place_rows-at {q} {n} {k} c place a i j h l =
    ap (λ (z : Mat q c k). z.at i j) (ap (λ z. transpose (selector q n c place) · z) (sym (transpose_transpose a)) ∙ sym (transpose_mul (transpose a) (selector q n c place)))
    ∙ transpose-at (transpose a · selector q n c place) i j ∙ mul_selector-at c (transpose a) place j i h l ∙ transpose-at a j (place i)

place_rows-entry : (q : Gf) (c n : ℕ) (place : ℕ → ℕ) (k j : ℕ) → j < n → k < c → (place_rows q c n place).at k j ≡ delta j (place k)
unfolding place_rows
place_rows-entry q c n place k j h l = transpose-at (selector q n c place) k j ∙ selector-at q n c place j k h l

module _ {q : Gf} {n b c : ℕ} (g : Mat q n b) (h : Mat q n c) (p r : ℕ → ℕ) (d : IsCoReduced g p) (e : IsCoReduced h r) (within : (x : Row q n) → x · h ≡ zeros q 1 c → x · g ≡ zeros q 1 b) where
  unfoldable change : Mat q c b
  change = place_rows q c n r · g

  h_rest : (one q n ⊟ h · place_rows q c n r) · h ≡ zeros q n c
  h_rest = simp (products, place_rows_undo h r e, sums)

  g_rest : (one q n ⊟ h · place_rows q c n r) · g ≡ zeros q n b
  g_rest = rows_equal _ _ (λ i l.
      row-mul i (one q n ⊟ h · place_rows q c n r) g
      ∙ within (row i (one q n ⊟ h · place_rows q c n r)) (sym (row-mul i (one q n ⊟ h · place_rows q c n r) h) ∙ ap (row i) h_rest ∙ row_zeros q n c i)
      ∙ sym (row_zeros q n b i))

  g_is : h · change ≡ g
  unfolding change
  g_is = sym (sub_eq_zeros g (h · (place_rows q c n r · g)) (simp (products) (simp (products) at g_rest)))

  change-at : (k i : ℕ) → k < c → change.at k i ≡ g.at (r k) i
  unfolding change
  change-at k i l = place_rows-at c r g k i l (e.inside k l)

  sizes_le : b ≤ c
  unfolding change
  sizes_le = steinitz (place_rows q b n p · h) change (mul_assoc_mat (place_rows q b n p) h change ∙ ap (λ z. place_rows q b n p · z) g_is ∙ place_rows_undo g p d)

  -- below the place of the last coefficient there are zeros
  below_last : (i k t : ℕ) → k < c → ((s : ℕ) → k < s → s < c → change.at s i ≡ 0) → r k < t → g.at t i ≡ 0
  unfolding ◌·◌
  below_last i k t l z x = sym (ap (λ (w : Mat q n b). w.at t i) g_is) ∙ sum-zeros q c _ (λ s u. elim (cases_lt k s) [
    | inl y ↦ ap (mul q (h.at t s)) (z s y u) ∙ mul_zero q (h.at t s)
    | inr y ↦ ap (λ w. mul q w (change.at s i)) (e.after s t u (before s u y)) ∙ zero_mul q (change.at s i)
  ])
    where
      before : (s : ℕ) → s < c → s ≤ k → r s < t
      before s u y = elim (cases_eq s k) [
        | inl w ↦ subst (λ k. r k < t) (sym w) x
        | inr w ↦ let f = e.further s k (omega arith) l in omega arith
      ]

  all_zero : (i t : ℕ) → ((s : ℕ) → s < c → change.at s i ≡ 0) → g.at t i ≡ 0
  unfolding ◌·◌
  all_zero i t z = sym (ap (λ (w : Mat q n b). w.at t i) g_is) ∙ sum-zeros q c _ (λ s u. ap (mul q (h.at t s)) (z s u) ∙ mul_zero q (h.at t s))

  place_among : (i : ℕ) → i < b → (k : ℕ) × (k < c) × (r k ≡ p i)
  place_among i l = go (last_nonzero c (λ k. change.at k i))
    where
      top : g.at (p i) i ≡ 1
      top = d.unit i i l l ∙ delta-same i

      impossible : 1 ≡ zero → ⊥
      impossible x = omega arith

      go : ((k : ℕ) × (k < c) × (change.at k i ≢ zero) × ((s : ℕ) → k < s → s < c → change.at s i ≡ zero)) ⊎ ((k : ℕ) → k < c → change.at k i ≡ zero) → (k : ℕ) × (k < c) × (r k ≡ p i)
      go (inl f) =
          let (k, u, x, z) = f in (
            k,
            u,
            elim (cases_lt (r k) (p i)) [
              | inl y ↦ absurd (impossible (sym top ∙ below_last i k (p i) u z y))
              | inr y ↦ elim (cases_lt (p i) (r k)) [
                | inl w ↦ absurd (x (change-at k i u ∙ d.after i (r k) l w))
                | inr w ↦ omega arith
              ]
            ],
          )
      go (inr z) = absurd (impossible (sym top ∙ all_zero i (p i) z))

coreduced_same : {q : Gf} {n c : ℕ} (g h : Mat q n c) (p r : ℕ → ℕ) → IsCoReduced g p → IsCoReduced h r
    → ((x : Row q n) → x · h ≡ zeros q 1 c → x · g ≡ zeros q 1 c) → ((x : Row q n) → x · g ≡ zeros q 1 c → x · h ≡ zeros q 1 c) → (i j : ℕ) → g.at i j ≡ h.at i j
coreduced_same {q} {n} {c} g h p r d e s t i j =
    let agree : (i : ℕ) → i < c → p i ≡ r i = λ i l. agree_below c p r d.further e.further (place_among g h p r d e s) (place_among h g r p e d t) (suc i) i (omega arith) l in
    let entries : (k i : ℕ) → k < c → i < c → (change g h p r d e s).at k i ≡ (one q c).at k i = λ k i l u.
    change-at g h p r d e s k i l ∙ ap (λ k. g.at k i) (sym (agree k l)) ∙ d.unit k i l u ∙ sym (one-at q c k i l) in
    let same : change g h p r d e s ≡ one q c = Mat-eq_below _ _ entries in
    ap (λ (z : Mat q n c). z.at i j) (sym (g_is g h p r d e s) ∙ ap (λ z. h · z) same ∙ mul_one_mat h)

-- Two co-reduced matrices that take the same rows to zero have as many columns and the same entries.
pub coreduced_unique : {q : Gf} {n b c : ℕ} (g : Mat q n b) (h : Mat q n c) (p r : ℕ → ℕ) → IsCoReduced g p → IsCoReduced h r
    → ((x : Row q n) → x · h ≡ zeros q 1 c → x · g ≡ zeros q 1 b) → ((x : Row q n) → x · g ≡ zeros q 1 b → x · h ≡ zeros q 1 c) → (b ≡ c) × ((i j : ℕ) → g.at i j ≡ h.at i j)
coreduced_unique {q} {n} {b} {c} g h p r d e s t =
    let sizes : b ≡ c = le_antisymm (sizes_le g h p r d e s) (sizes_le h g r p e d t) in (
      sizes,
      subst (λ c. (h : Mat q n c) → IsCoReduced h r → ((x : Row q n) → x · h ≡ zeros q 1 c → x · g ≡ zeros q 1 b) → ((x : Row q n) → x · g ≡ zeros q 1 b → x · h ≡ zeros q 1 c) → (i j : ℕ) → g.at i j ≡ h.at i j)
          sizes (λ h e s t. coreduced_same g h p r d e s t) h e s t,
    )

-- Reduced rows, and the co-reduced matrix that takes to zero exactly their combinations.
module _ {q : Gf} {m n c : ℕ} (a : Mat q m n) (g : Mat q n c) (p r : ℕ → ℕ) (d : IsRowReduced a p) (e : IsCoReduced g r) (kills : a · g ≡ zeros q m c) where
  -- a pivot is no place
  pub pivot_no_place : (i k : ℕ) → i < m → k < c → p i ≢ r k
  unfolding zeros ◌·◌
  pivot_no_place i k h l same =
      let value : (a · g).at i k ≡ 1 =
      sum-single q n (p i) (λ t. mul q (a.at i t) (g.at t k)) (d.inside i h)
      (λ t u x. elim (cases_lt t (p i)) [
        | inl y ↦ ap (λ w. mul q w (g.at t k)) (d.before i t h y) ∙ zero_mul q (g.at t k)
        | inr y ↦ ap (mul q (a.at i t)) (e.after k t l (omega arith)) ∙ mul_zero q (a.at i t)
      ])
      ∙ mod-mul q (a.at i (p i)) (g.at (p i) k)
      ∙ ap₂ (mul q) (d.one i h) (ap (λ t. g.at t k) same ∙ e.unit k k l l ∙ delta-same k) ∙ mul_one q 1 (one-lt-order q) in
      let bad : zero ≡ 1 = sym (ap (λ (z : Mat q m c). z.at i k) kills) ∙ value in
      omega arith

  module _ (spans : (x : Row q n) → x · g ≡ zeros q 1 c → IsInSpan a x) where
    -- the row t, less what its image under g says, is a combination of the reduced rows
    unfoldable rest_of : ℕ → Row q n
    rest_of t = unit q n t ⊟ row t g · place_rows q c n r

    rest_in : (t : ℕ) → IsInSpan a (rest_of t)
    unfolding rest_of
    rest_in t = spans (unit q n t ⊟ row t g · place_rows q c n r) (simp (products, place_rows_undo g r e, unit_mul t g, sums))

    rest-at : (t j : ℕ) → j < n → ((k : ℕ) → k < c → r k ≡ j → g.at t k ≡ 0) → (row t g · place_rows q c n r).at 0 j ≡ 0
    unfolding ◌·◌
    rest-at t j h z = sum-zeros q c _ (λ k l. elim (cases_eq (r k) j) [
      | inl x ↦ ap (λ w. mul q w ((place_rows q c n r).at k j)) (row-at t g k ∙ z k l x) ∙ zero_mul q ((place_rows q c n r).at k j)
      | inr x ↦ ap (mul q ((row t g).at 0 k)) (place_rows-entry q c n r k j h l ∙ delta-other j (r k) (λ y. x (sym y))) ∙ mul_zero q ((row t g).at 0 k)
    ])

    rest_of-at : (t j : ℕ) → j < n → t < n → ((k : ℕ) → k < c → r k ≡ j → g.at t k ≡ 0) → (rest_of t).at 0 j ≡ delta t j
    unfolding rest_of
    rest_of-at t j h l z =
        sub-at (unit q n t) (row t g · place_rows q c n r) 0 j
        ∙ ap₂ (sub q) (unit-at q n t j ∙ one-at q n t j l) (rest-at t j h z) ∙ sub_zero q (delta t j) (delta_below q t j)

    -- each column is a pivot or a place
    pub pivot_or_place : (t : ℕ) → t < n → ((i : ℕ) × (i < m) × (p i ≡ t)) ⊎ ((k : ℕ) × (k < c) × (r k ≡ t))
    pivot_or_place t h = go (search_or_all c (λ k. r k ≡ t) (λ k. r k ≢ t) (λ k. cases_eq (r k) t))
      where
        go : ((k : ℕ) × (k < c) × (r k ≡ t)) ⊎ ((k : ℕ) → k < c → r k ≢ t) → ((i : ℕ) × (i < m) × (p i ≡ t)) ⊎ ((k : ℕ) × (k < c) × (r k ≡ t))
        go (inl f) = inr f
        go (inr none) =
            let here : (rest_of t).at 0 t ≡ 1 = rest_of-at t t h h (λ k l x. absurd (none k l x)) ∙ delta-same t in
            inl (first_at_pivot a p d (rest_of t) t (rest_in t) (λ z. let bad : 1 ≡ zero = sym here ∙ z in omega arith)
            (λ j b. rest_of-at t j (omega arith) h (λ k l x. e.after k t l (let y : r k < t = omega arith in y)) ∙ delta-other t j (omega arith)))

    all_rest : IsInSpan a (one q n ⊟ g · place_rows q c n r)
    all_rest = in_span_by_rows a (one q n ⊟ g · place_rows q c n r) (λ i l.
        spans (row i (one q n ⊟ g · place_rows q c n r))
        (sym (row-mul i (one q n ⊟ g · place_rows q c n r) g) ∙ ap (row i) rest_kills ∙ row_zeros q n c i))
      where
        rest_kills : (one q n ⊟ g · place_rows q c n r) · g ≡ zeros q n c
        rest_kills = simp (products, place_rows_undo g r e, sums)

    basis_right : stack a (place_rows q c n r) · beside (selector q n m p ⊟ g · (place_rows q c n r · selector q n m p)) g ≡ one q (m + c)
    basis_right = simp (blocks, products, mul_selector a p d, kills, pull a g kills, place_rows_undo g r e, pull (place_rows q c n r) g (place_rows_undo g r e), sums, one_blocks)

    basis_left : (w : Mat q n m) → w · a ≡ one q n ⊟ g · place_rows q c n r → beside w g · stack a (place_rows q c n r) ≡ one q n
    basis_left w f = beside_stack w g a (place_rows q c n r) ∙ ap (λ z. z ⊞ g · place_rows q c n r) f ∙ sub_add_mat (one q n) (g · place_rows q c n r)

    -- the reduced rows and the unit rows at the places are a basis
    pub pivots_and_places : m + c ≡ n
    pivots_and_places =
        let s = all_rest in
        le_antisymm
        (steinitz (stack a (place_rows q c n r)) (beside (selector q n m p ⊟ g · (place_rows q c n r · selector q n m p)) g) basis_right)
        (steinitz (beside s.by g) (stack a (place_rows q c n r)) (basis_left s.by s.is))

    pub basis_with_places : HasInverse (stack a (place_rows q c n r))
    basis_with_places = right_inverse_square (stack a (place_rows q c n r)) pivots_and_places (record { inverse = beside (selector q n m p ⊟ g · (place_rows q c n r · selector q n m p)) g; is = basis_right })

-- Each row is congruent, modulo the combinations of reduced rows, to exactly one row that is zero at the pivots.
module _ {q : Gf} {m n k : ℕ} (a : Mat q m n) (p : ℕ → ℕ) (d : IsRowReduced a p) where
  unfoldable pub cleared_rest : Mat q k n → Mat q k n
  cleared_rest x = x ⊟ x · selector q n m p · a

  pub cleared_rest-cleared : (x : Mat q k n) → cleared_rest x · selector q n m p ≡ zeros q k m
  unfolding cleared_rest
  cleared_rest-cleared x = simp (products, mul_selector a p d, sums)

  pub cleared_rest-congruent : (x : Mat q k n) → IsInSpan a (x ⊟ cleared_rest x)
  unfolding cleared_rest
  cleared_rest-congruent x = record { by = x · selector q n m p; is = simp (products, sums) }

  pub cleared_rest-unique : (x y : Mat q k n) → x · selector q n m p ≡ zeros q k m → y · selector q n m p ≡ zeros q k m → IsInSpan a (x ⊟ y) → x ≡ y
  cleared_rest-unique x y z w s =
      let coefficients : s.by ≡ zeros q k m =
      sym (mul_one_mat s.by) ∙ ap (λ v. s.by · v) (sym (mul_selector a p d)) ∙ sym (mul_assoc_mat s.by a (selector q n m p)) ∙ ap (λ v. v · selector q n m p) s.is
      ∙ sub_mul_mat x y (selector q n m p) ∙ ap₂ (λ u v. u ⊟ v) z w ∙ sub_self_mat (zeros q k m) in
      sub_eq_zeros x y (sym s.is ∙ ap (λ v. v · a) coefficients ∙ zeros_mul a)
