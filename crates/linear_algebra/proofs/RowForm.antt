-- Each matrix has a reduced row form; reduced rows are independent; their coefficients are read off at the pivots.
use Rattle.std.proofs.Common.{ℕ, zero, suc, ◌+◌, ◌<◌, ◌≡◌, ◌≢◌, ◌⊎◌, inl, inr, refl, sym, ap, ap₂, ◌∙◌, arith, subst, mod-eq_of_lt, not-suc-le-zero}
use Rattle.std.proofs.lemmas.Bool.{cases_eq}
use Rattle.linear_algebra.specs.Field.{Gf, mul}
use Rattle.linear_algebra.specs.FieldLaws.{mod-mul, mul_one, mul_zero}
use Rattle.linear_algebra.specs.Sums.{sum-single}
use Rattle.linear_algebra.specs.Matrix.{Mat, Row, Column, Mat-eq_below, zeros, one, delta, delta-same, delta-other, delta_below, ◌⊞◌, ◌⊟◌, ◌·◌, stack, beside}
use Rattle.linear_algebra.specs.Parts.{left_part, right_part}
use Rattle.linear_algebra.specs.Rank.{IsInSpan, HasRightInverse}
use Rattle.linear_algebra.specs.RowForm.{IsRowReduced, ReducedForm, selector}
use Rattle.linear_algebra.proofs.MatrixLaws.{one-at, mul_assoc_mat, mul_one_mat}
use Rattle.linear_algebra.proofs.Blocks.{join-first, join-shifted, no_columns}
use Rattle.linear_algebra.proofs.PartsLaws.{made-at, beside_parts, commute_1, one_1-at}
use Rattle.linear_algebra.proofs.Products.{products, sums, blocks}
use Rattle.linear_algebra.proofs.Solving.{IsSeen, seen_or_zeros}

-- Entries at the places of a selector.
pub selector-at : (q : Gf) (n m : ℕ) (pivot : ℕ → ℕ) (j i : ℕ) → j < n → i < m → (selector q n m pivot).at j i ≡ delta j (pivot i)
unfolding selector
selector-at q n m pivot j i h k = made-at q n m (λ j i. delta j (pivot i)) j i h k ∙ mod-eq_of_lt (delta_below q j (pivot i))

pub mul_selector-at : {q : Gf} {k n : ℕ} (m : ℕ) (a : Mat q k n) (pivot : ℕ → ℕ) (r i : ℕ) → i < m → pivot i < n → (a · selector q n m pivot).at r i ≡ a.at r (pivot i)
unfolding ◌·◌
mul_selector-at {q} {k} {n} m a pivot r i h p =
    sum-single q n (pivot i) _ p (λ t l d. ap (mul q (a.at r t)) (selector-at q n m pivot t i l h ∙ delta-other t (pivot i) d) ∙ mul_zero q (a.at r t))
    ∙ mod-mul q (a.at r (pivot i)) _ ∙ ap (mul q (a.at r (pivot i))) (selector-at q n m pivot (pivot i) i p h ∙ delta-same (pivot i)) ∙ mul_one q (a.at r (pivot i)) (a.fits.small r (pivot i))

module _ {q : Gf} {m n : ℕ} (a : Mat q m n) (pivot : ℕ → ℕ) (d : IsRowReduced a pivot) where
  pub mul_selector : a · selector q n m pivot ≡ one q m
  mul_selector = Mat-eq_below _ _ (λ r i h k. mul_selector-at m a pivot r i k (d.inside i k) ∙ entry r i h k ∙ sym (one-at q m r i h))
    where
      entry : (r i : ℕ) → r < m → i < m → a.at r (pivot i) ≡ delta r i
      entry r i h k = elim (cases_eq r i) [
        | inl e ↦ ap (λ r. a.at r (pivot i)) e ∙ d.one i k ∙ sym (delta-same i) ∙ ap (λ r. delta r i) (sym e)
        | inr e ↦ d.cleared i r k h e ∙ sym (delta-other r i e)
      ]

  pub reduced_independent : HasRightInverse a
  reduced_independent = record { inverse = selector q n m pivot; is = mul_selector }

  -- The coefficients of a combination of reduced rows are its entries at the pivots.
  pub reduced_coefficients : {k : ℕ} (z : Mat q k m) → z · a · selector q n m pivot ≡ z
  reduced_coefficients z = mul_assoc_mat z a (selector q n m pivot) ∙ ap (λ w. z · w) mul_selector ∙ mul_one_mat z

-- A matrix whose first column is c and whose others are h, where u is a row with u · c = 1.
module _ {q : Gf} {m : ℕ} (n : ℕ) (c : Column q m) (h : Mat q m n) (u : Row q m) (e : u · c ≡ one q 1) (G : ReducedForm (h ⊟ c · (u · h))) where
  pub heads : Row q G.size
  heads = u · h · selector q n G.size G.pivot

  pub tail : Row q n
  tail = u · h ⊟ heads · G.rows

  pub new_rows : Mat q (1 + G.size) (1 + n)
  new_rows = stack (beside (one q 1) tail) (beside (zeros q G.size 1) G.rows)

  pub new_spans : IsInSpan new_rows (beside c h)
  unfolding new_rows tail
  new_spans = record { by = beside c (c · heads ⊞ G.spans.by); is = simp (blocks, products, sums, G.spans.is) }

  combining : Mat q G.size m
  combining = G.spanned.by · (one q m ⊟ c · u)

  combining_c : combining · c ≡ zeros q G.size 1
  unfolding combining
  combining_c = simp (products, sums, e)

  combining_h : combining · h ≡ G.rows
  unfolding combining
  combining_h = simp (products) (simp (products) at G.spanned.is)

  pub new_spanned : IsInSpan (beside c h) new_rows
  unfolding new_rows tail
  new_spanned = record { by = stack (u ⊟ heads · combining) combining; is = simp (blocks, products, combining_c, combining_h, e) }

  -- The entries of the new rows.
  first_first : new_rows.at 0 0 ≡ 1
  unfolding new_rows stack beside
  first_first = join-first 1 _ _ 0 (omega arith) ∙ join-first 1 _ _ 0 (omega arith) ∙ one_1-at q

  first_later : (j : ℕ) → new_rows.at 0 (suc j) ≡ tail.at 0 j
  unfolding new_rows stack beside
  first_later j = let same : suc j ≡ 1 + j = omega arith in ap (new_rows.at 0) same ∙ join-first 1 _ _ 0 (omega arith) ∙ join-shifted 1 _ _ j

  later_first : (i : ℕ) → new_rows.at (suc i) 0 ≡ 0
  unfolding new_rows stack beside zeros
  later_first i = let same : suc i ≡ 1 + i = omega arith in ap (λ i. new_rows.at i 0) same ∙ join-shifted 1 _ _ i ∙ join-first 1 _ _ 0 (omega arith)

  later_later : (i j : ℕ) → new_rows.at (suc i) (suc j) ≡ G.rows.at i j
  unfolding new_rows stack beside
  later_later i j =
      let row : suc i ≡ 1 + i = omega arith in
      let place : suc j ≡ 1 + j = omega arith in
      ap₂ new_rows.at row place ∙ join-shifted 1 _ _ i ∙ join-shifted 1 _ _ j

  tail_selected : tail · selector q n G.size G.pivot ≡ zeros q 1 G.size
  unfolding tail heads
  tail_selected = simp (products, sums, mul_selector G.rows G.pivot G.reduced)

  tail_cleared : (i : ℕ) → i < G.size → tail.at 0 (G.pivot i) ≡ 0
  unfolding zeros
  tail_cleared i h =
      sym (mul_selector-at G.size tail G.pivot 0 i h (G.reduced.inside i h)) ∙ ap (λ (z : Row q G.size). z.at 0 i) tail_selected

  -- column 0, and the old pivots one further
  unfoldable pub new_pivot : ℕ → ℕ
  new_pivot zero = 0
  new_pivot (suc i) = suc (G.pivot i)

  pub new_inside : (i : ℕ) → i < 1 + G.size → new_pivot i < 1 + n
  unfolding new_pivot
  new_inside zero l = omega arith
  new_inside (suc i) l = let k = G.reduced.inside i (omega arith) in omega arith

  pub new_one : (i : ℕ) → i < 1 + G.size → new_rows.at i (new_pivot i) ≡ 1
  unfolding new_pivot
  new_one zero l = first_first
  new_one (suc i) l = later_later i (G.pivot i) ∙ G.reduced.one i (omega arith)

  pub new_before : (i j : ℕ) → i < 1 + G.size → j < new_pivot i → new_rows.at i j ≡ 0
  unfolding new_pivot
  new_before zero j l k = absurd (not-suc-le-zero k)
  new_before (suc i) zero l k = later_first i
  new_before (suc i) (suc j) l k = later_later i j ∙ G.reduced.before i j (omega arith) (omega arith)

  pub new_further : (i k : ℕ) → i < k → k < 1 + G.size → new_pivot i < new_pivot k
  unfolding new_pivot
  new_further i zero l b = absurd (not-suc-le-zero l)
  new_further zero (suc k) l b = omega arith
  new_further (suc i) (suc k) l b = let f = G.reduced.further i k (omega arith) (omega arith) in omega arith

  pub new_cleared : (i k : ℕ) → i < 1 + G.size → k < 1 + G.size → k ≢ i → new_rows.at k (new_pivot i) ≡ 0
  unfolding new_pivot
  new_cleared zero zero l b d = absurd (d refl)
  new_cleared zero (suc k) l b d = later_first k
  new_cleared (suc i) zero l b d = first_later (G.pivot i) ∙ tail_cleared i (omega arith)
  new_cleared (suc i) (suc k) l b d = later_later k (G.pivot i) ∙ G.reduced.cleared i k (omega arith) (omega arith) (λ e. d (ap suc e))

  unfoldable pub with_pivot : ReducedForm (beside c h)
  with_pivot = record {
    size = 1 + G.size;
    rows = new_rows;
    pivot = new_pivot;
    reduced = record { inside = new_inside; one = new_one; before = new_before; further = new_further; cleared = new_cleared };
    spans = new_spans;
    spanned = new_spanned;
  }

-- A zero column in front.
module _ {q : Gf} {m : ℕ} (n : ℕ) (h : Mat q m n) (G : ReducedForm h) where
  pub shifted_rows : Mat q G.size (1 + n)
  shifted_rows = beside (zeros q G.size 1) G.rows

  shifted-first : (i : ℕ) → shifted_rows.at i 0 ≡ 0
  unfolding shifted_rows beside zeros
  shifted-first i = join-first 1 _ _ 0 (omega arith)

  pub shifted-later : (i j : ℕ) → shifted_rows.at i (suc j) ≡ G.rows.at i j
  unfolding shifted_rows beside
  shifted-later i j = let place : suc j ≡ 1 + j = omega arith in ap (shifted_rows.at i) place ∙ join-shifted 1 _ _ j

  pub shifted_before : (i j : ℕ) → i < G.size → j < suc (G.pivot i) → shifted_rows.at i j ≡ 0
  shifted_before i zero l k = shifted-first i
  shifted_before i (suc j) l k = shifted-later i j ∙ G.reduced.before i j l (omega arith)

  unfoldable pub without_pivot : ReducedForm (beside (zeros q m 1) h)
  unfolding shifted_rows
  without_pivot = record {
    size = G.size;
    rows = shifted_rows;
    pivot = λ i. suc (G.pivot i);
    reduced = record {
      inside = λ i l. let k = G.reduced.inside i l in omega arith;
      one = λ i l. shifted-later i (G.pivot i) ∙ G.reduced.one i l;
      before = shifted_before;
      further = λ i k l b. let f = G.reduced.further i k l b in omega arith;
      cleared = λ i k l b d. shifted-later k (G.pivot i) ∙ G.reduced.cleared i k l b d;
    };
    spans = record { by = G.spans.by; is = simp (blocks, products, G.spans.is) };
    spanned = record { by = G.spanned.by; is = simp (blocks, products, G.spanned.is) };
  }

-- By the first column.
module _ {q : Gf} {m : ℕ} (n : ℕ) (before : (f : Mat q m n) → ReducedForm f) where
  by_first : (c : Column q m) (h : Mat q m n) → IsSeen c ⊎ (c ≡ zeros q m 1) → ReducedForm (beside c h)
  by_first c h (inl s) =
      let over : s.to · s.from · c ≡ one q 1 = mul_assoc_mat s.to s.from c ∙ commute_1 s.to (s.from · c) ∙ mul_assoc_mat s.from c s.to ∙ s.is in
      with_pivot n c h (s.to · s.from) over (before (h ⊟ c · (s.to · s.from · h)))
  by_first c h (inr z) = subst (λ c. ReducedForm (beside c h)) (sym z) (without_pivot n h (before h))

  one_column_more : (f : Mat q m (1 + n)) → ReducedForm f
  one_column_more f = subst ReducedForm (beside_parts 1 n f) (by_first (left_part 1 n f) (right_part 1 n f) (seen_or_zeros (left_part 1 n f)))

unfoldable pub no_column : {q : Gf} {m : ℕ} (f : Mat q m 0) → ReducedForm f
no_column {q} {m} f = record {
  size = 0;
  rows = zeros q 0 0;
  pivot = λ i. 0;
  reduced = record {
    inside = λ i l. absurd (not-suc-le-zero l);
    one = λ i l. absurd (not-suc-le-zero l);
    before = λ i j l k. absurd (not-suc-le-zero l);
    further = λ i k l b. absurd (not-suc-le-zero b);
    cleared = λ i k l b d. absurd (not-suc-le-zero l);
  };
  spans = record { by = zeros q m 0; is = no_columns _ _ };
  spanned = record { by = zeros q 0 m; is = no_columns _ _ };
}

of_width : {q : Gf} {m : ℕ} (n : ℕ) (f : Mat q m n) → ReducedForm f
of_width zero f = no_column f
of_width {q} {m} (suc n) f =
    let same : 1 + n ≡ suc n = omega arith in
    subst (λ k. (f : Mat q m k) → ReducedForm f) same (one_column_more n (of_width n)) f

-- Each matrix has a reduced row form.
pub reduced_form : {q : Gf} {m n : ℕ} (f : Mat q m n) → ReducedForm f
reduced_form {q} {m} {n} f = of_width n f
