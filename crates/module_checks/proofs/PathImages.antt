-- What comes along paths, one arrow after another.
use Rattle.std.proofs.Common.{ℕ, suc, ◌<◌, ◌≤◌, ◌≡◌, ◌≢◌, ◌+◌, ◌*◌, ◌-◌, ◌/◌, ◌%◌, List, length, get_or, set, get_or-set_same, get_or-set_other, cond, ltb, lt-ltb, le-ltb, refl, sym, ap, ap₂, ◌∙◌, inl, inr, arith, subst, add-one, mod-lt, mod-eq_of_lt, div-add-mod', mul-le-mul_right}
use Rattle.std.specs.Bool.{⊤}
use Rattle.std.proofs.lemmas.Bool.{cases_lt, cases_eq, cond-true, cond-false}
use Rattle.std.proofs.lemmas.List.{get_or_past}
use Rattle.linear_algebra.specs.Field.{Gf, add, mul}
use Rattle.linear_algebra.specs.FieldLaws.{add_zero, zero_add, mul_zero, zero_mul, one_mul, mul_one, mul_below, mul_assoc}
use Rattle.linear_algebra.specs.Sums.{sum_to, sum-suc, sum-same, sum-ext, sum-zeros, sum_below, sum-split, sum-mul, mul-sum, sum-swap, sum-single}
use Rattle.linear_algebra.specs.Rows.{entry}
use Rattle.linear_algebra.specs.Matrix.{Column, Mat-eq_below, delta, delta-same, delta-other, zeros, ◌·◌}
use Rattle.linear_algebra.specs.BlockFamilies.{total}
use Rattle.linear_algebra.specs.MatrixLaws.{one-at, transpose-at, mul_assoc_mat, one_mul_mat, mul_zeros, zeros_mul}
use Rattle.linear_algebra.specs.Parts.{unit, unit_column}
use Rattle.linear_algebra.specs.PartsLaws.{equal_on_columns, unit-at}
use Rattle.linear_algebra.proofs.BlockFamilies.{total_grows}
use Rattle.linear_algebra.proofs.Subspaces.{through_zero}
use Rattle.fp_linear.specs.Matrix.{PlainMatrix}
use Rattle.fp_linear.specs.Slices.{AreElements}
use Rattle.fp_linear.specs.Meeting.{dot, Meets, IsClearFrom}
use Rattle.representations.specs.Quiver.{Quiver, Path, trivial, then, path_length}
use Rattle.representations.specs.Rep.{Rep, along}
use Rattle.module_types.proofs.TermMatrices.{place_in}
use Rattle.module_checks.specs.Spreading.{IsSpread}
use Rattle.module_checks.specs.Commuting.{AsksMore}
use Rattle.module_checks.specs.PathImages.{image_entry, image_dot, ImageMet, ImagesMet, IsZeroWithin, IsUnitRows, arrow_dot, AskImages, EndsPaths, MeetsAt, HoldPaths, LongPathsActAsZero}
use Rattle.module_checks.proofs.SpreadDots.{dot_clear}
use Rattle.module_checks.proofs.Steps.{spread_others, spread_clear}
use Rattle.module_checks.proofs.HomRank.{IsPlainOf}
use Rattle.fp_linear.proofs.Meeting.{row_step}

-- A sum that has terms in a window alone.
pub window : (q : Gf) (b d n : ℕ) (g : ℕ → ℕ) → b + d ≤ n → ((t : ℕ) → t < b → g t ≡ 0) → ((t : ℕ) → b + d ≤ t → g t ≡ 0) → sum_to q n g ≡ sum_to q d (λ i. g (b + i))
window q b d n g h before behind =
    let rest : ℕ = n - (b + d) in
    let whole : n ≡ b + d + rest = omega arith in
    ap (λ k. sum_to q k g) whole ∙ sum-split q (b + d) rest g
    ∙ ap (add q (sum_to q (b + d) g)) (sum-zeros q rest _ (λ i l. behind (b + d + i) (omega arith)))
    ∙ add_zero q (sum_to q (b + d) g) (sum_below q (b + d) g)
    ∙ sum-split q b d g ∙ ap (λ z. add q z (sum_to q d (λ i. g (b + i)))) (sum-zeros q b g before)
    ∙ zero_add q _ (sum_below q d (λ i. g (b + i)))

-- A clear row takes an image.
module _ (q : Gf) (n m u from t : ℕ) (a : PlainMatrix) (s old new : List ℕ) (w : IsSpread q (u * n) n a.col_count (image_entry q s from a) (λ j. t + j) old new) (c : IsClearFrom (u * n) old) (l : u < m) where
  new_row : (x : ℕ → ℕ) → dot q n new (u * n) x ≡ image_dot q s from a t x
  new_row x = w.dots x ∙ ap (λ z. add q z (image_dot q s from a t x)) (dot_clear q n (u * n) old x (λ t h. c.clear (u * n + t) (omega arith))) ∙ zero_add q _ (sum_below q a.col_count _)

  old_row : (x : ℕ → ℕ) → dot q n old (u * n) x ≡ 0
  old_row x = dot_clear q n (u * n) old x (λ t h. c.clear (u * n + t) (omega arith))

  pub image_written : AsksMore q n m old new (ImageMet q s from a t)
  image_written = record {
    before = λ x h. record { rows = λ k r. elim (cases_eq k u) [ inl e ↦ ap (λ z. dot q n old (z * n) x) e ∙ old_row x | inr d ↦ sym (spread_others q n u _ _ _ old new w x k d) ∙ h.rows k r ] };
    more = λ x h. record { met = sym (new_row x) ∙ h.rows u l };
    enough = λ x h p. record { rows = λ k r. elim (cases_eq k u) [ inl e ↦ ap (λ z. dot q n new (z * n) x) e ∙ new_row x ∙ p.met | inr d ↦ spread_others q n u _ _ _ old new w x k d ∙ h.rows k r ] };
  }

  pub image_clear : IsClearFrom ((u + 1) * n) new
  image_clear = spread_clear q n u _ _ _ old new w (record { clear = λ k h. c.clear k (let e = row_step n u (u + 1) (omega arith) in omega arith) })

-- Zeros give nothing.
pub image_of_zeros : (q : Gf) (s : List ℕ) (from : ℕ) (a : PlainMatrix) (t : ℕ) → IsZeroWithin s from a.row_count → (x : ℕ → ℕ) → image_dot q s from a t x ≡ 0
image_of_zeros q s from a t z x = sum-zeros q a.col_count _ (λ j l. ap (λ e. mul q e (x (t + j))) (sum-zeros q a.row_count _ (λ i k. ap (λ e. mul q e (entry a.rows i j)) (z.at i k) ∙ zero_mul q (entry a.rows i j)))
    ∙ zero_mul q (x (t + j)))

pub image_not_taken : (q : Gf) (n m : ℕ) (s old : List ℕ) (from : ℕ) (a : PlainMatrix) (t : ℕ) → IsZeroWithin s from a.row_count → AsksMore q n m old old (ImageMet q s from a t)
image_not_taken q n m s old from a t z = record { before = λ x h. h; more = λ x h. record { met = image_of_zeros q s from a t z x }; enough = λ x h p. h }

pub ImagesMet-none : (q : Gf) (n m : ℕ) (s old : List ℕ) (b : ℕ) (a : PlainMatrix) (t : ℕ) → AsksMore q n m old old (ImagesMet q n 0 s b a t)
ImagesMet-none q n m s old b a t = record { before = λ x h. h; more = λ x h. record { each = λ r l. absurd (omega arith) }; enough = λ x h p. h }

pub ImagesMet-more : (q : Gf) (n m k : ℕ) (s first old new : List ℕ) (b from : ℕ) (a : PlainMatrix) (t : ℕ) → from ≡ k * n + b → AsksMore q n m first old (ImagesMet q n k s b a t)
    → AsksMore q n m old new (ImageMet q s from a t) → AsksMore q n m first new (ImagesMet q n (k + 1) s b a t)
ImagesMet-more q n m k s first old new b from a t e c d = record {
  before = λ x h. c.before x (d.before x h);
  more = λ x h. record {
    each = λ r l. elim (cases_eq r k) [
      | inl same ↦ ap (λ z. image_dot q s z a t x) (ap (λ z. z * n + b) same ∙ sym e) ∙ (d.more x h).met
      | inr other ↦ (c.more x (d.before x h)).each r (omega arith)
    ];
  };
  enough = λ x h p. d.enough x (c.enough x h (record { each = λ r l. p.each r (omega arith) })) (record { met = ap (λ z. image_dot q s z a t x) e ∙ p.each k (omega arith) });
}

module _ {q : Gf} {Q : Quiver} (X : Rep q Q) where
  -- An image by the printed matrix of an arrow.
  image_of_arrow : (n a r : ℕ) (p : PlainMatrix) (b t : ℕ) (s : List ℕ) → IsPlainOf p (X.mat a) → b ≡ total (Q.source a) X.dim → t ≡ total (Q.target a) X.dim → (x : ℕ → ℕ)
      → image_dot q s (r * n + b) p t x ≡ arrow_dot X n s a r x
  image_of_arrow n a r p b t s f e d x =
      ap (λ k. sum_to q k (λ j. mul q (image_entry q s (r * n + b) p j) (x (t + j)))) f.col_count
      ∙ sum-ext q (X.dim (Q.target a)) _ _ (λ j. ap₂ (mul q)
      (ap (λ k. sum_to q k (λ i. mul q (get_or s (r * n + b + i) 0) (entry p.rows i j))) f.row_count
      ∙ sum-ext q (X.dim (Q.source a)) _ _ (λ i. ap₂ (λ z w. mul q (get_or s (r * n + z + i) 0) w) e (f.entries i j)))
      (ap (λ z. x (z + j)) d))

  pub AskImages-none : (n m count : ℕ) (s new : List ℕ) → IsClearFrom 0 new → AskImages X n m count 0 s new
  AskImages-none n m count s new c = record {
    forth = λ x h a r l. absurd (omega arith);
    back = λ x h. record { rows = λ i l. dot_clear q n (i * n) new x (λ t k. c.clear (i * n + t) (omega arith)) };
  }

  pub AskImages-more : (n m count k : ℕ) (p : PlainMatrix) (b t : ℕ) (s old new : List ℕ) → IsPlainOf p (X.mat k) → b ≡ total (Q.source k) X.dim → t ≡ total (Q.target k) X.dim
      → AskImages X n m count k s old → AsksMore q n m old new (ImagesMet q n count s b p t) → AskImages X n m count (k + 1) s new
  AskImages-more n m count k p b t s old new f e d asked more = record {
    forth = λ x h a r l c. elim (cases_eq a k) [
      | inl same ↦ ap (λ a. arrow_dot X n s a r x) same ∙ sym (image_of_arrow n k r p b t s f e d x) ∙ (more.more x h).each r c
      | inr other ↦ asked.forth x (more.before x h) a r (omega arith) c
    ];
    back = λ x h. more.enough x (asked.back x (λ a r l c. h a r (omega arith) c)) (record { each = λ r c. image_of_arrow n k r p b t s f e d x ∙ h k r (omega arith) c });
  }

  pub AskImages-kept : (n m count k : ℕ) (s old new : List ℕ) → AskImages X n m count k s old → AsksMore q n m old new (λ x. ⊤) → AskImages X n m count k s new
  AskImages-kept n m count k s old new asked same = record { forth = λ x h. asked.forth x (same.before x h); back = λ x h. same.enough x (asked.back x h) tt }

  -- A column at a vertex as a function of all places.
  placed : (w : ℕ) → Column q (X.dim w) → ℕ → ℕ
  placed w y p = cond (ltb p (total w X.dim)) 0 (y.at (p - total w X.dim) 0)

  placed-before : (w p : ℕ) (y : Column q (X.dim w)) → p < total w X.dim → placed w y p ≡ 0
  unfolding placed
  placed-before w p y h = cond-true (ltb p (total w X.dim)) 0 _ (lt-ltb p (total w X.dim) h)

  placed-there : (w i : ℕ) (y : Column q (X.dim w)) → placed w y (total w X.dim + i) ≡ y.at i 0
  unfolding placed
  placed-there w i y =
      let e : total w X.dim + i - total w X.dim ≡ i = omega arith in
      cond-false (ltb (total w X.dim + i) (total w X.dim)) 0 _ (le-ltb (total w X.dim + i) (total w X.dim) (omega arith)) ∙ ap (λ k. y.at k 0) e

  placed-behind : (w p : ℕ) (y : Column q (X.dim w)) → total w X.dim + X.dim w ≤ p → placed w y p ≡ 0
  unfolding placed
  placed-behind w p y h =
      cond-false (ltb p (total w X.dim)) 0 _ (le-ltb p (total w X.dim) (omega arith)) ∙ y.fits.below (p - total w X.dim) 0 (omega arith)

  -- The product of a row with such a function.
  dot_placed : (n w start : ℕ) (s : List ℕ) (y : Column q (X.dim w)) → total w X.dim + X.dim w ≤ n
      → dot q n s start (placed w y) ≡ sum_to q (X.dim w) (λ i. mul q (get_or s (start + total w X.dim + i) 0) (y.at i 0))
  unfolding dot
  dot_placed n w start s y h =
      window q (total w X.dim) (X.dim w) n (λ t. mul q (get_or s (start + t) 0) (placed w y t)) h
      (λ t l. ap (mul q (get_or s (start + t) 0)) (placed-before w t y l) ∙ mul_zero q _)
      (λ t l. ap (mul q (get_or s (start + t) 0)) (placed-behind w t y l) ∙ mul_zero q _)
      ∙ sum-ext q (X.dim w) _ _ (λ i. let e : start + (total w X.dim + i) ≡ start + total w X.dim + i = omega arith in ap₂ (λ k z. mul q (get_or s k 0) z) e (placed-there w i y))

  -- An image times it, at the arrow's own target and elsewhere.
  image_placed : (n a r : ℕ) (s : List ℕ) (y : Column q (X.dim (Q.target a)))
      → arrow_dot X n s a r (placed (Q.target a) y) ≡ sum_to q (X.dim (Q.source a)) (λ i. mul q (get_or s (r * n + total (Q.source a) X.dim + i) 0) ((X.mat a · y).at i 0))
  unfolding ◌·◌
  image_placed n a r s y =
      let f = λ (i : ℕ). get_or s (r * n + total (Q.source a) X.dim + i) 0 in
      sum-ext q (X.dim (Q.target a)) _ (λ j. sum_to q (X.dim (Q.source a)) (λ i. mul q (f i) (mul q ((X.mat a).at i j) (y.at j 0)))) (λ j.
      ap (mul q (sum_to q (X.dim (Q.source a)) (λ i. mul q (f i) ((X.mat a).at i j)))) (placed-there (Q.target a) j y)
      ∙ sum-mul q (X.dim (Q.source a)) (y.at j 0) (λ i. mul q (f i) ((X.mat a).at i j))
      ∙ sum-ext q (X.dim (Q.source a)) _ _ (λ i. mul_assoc q (f i) ((X.mat a).at i j) (y.at j 0)))
      ∙ sum-swap q (X.dim (Q.target a)) (X.dim (Q.source a)) (λ j i. mul q (f i) (mul q ((X.mat a).at i j) (y.at j 0)))
      ∙ sum-ext q (X.dim (Q.source a)) _ _ (λ i. sym (mul-sum q (X.dim (Q.target a)) (f i) (λ j. mul q ((X.mat a).at i j) (y.at j 0))))

  image_elsewhere : (n a r w : ℕ) (s : List ℕ) (y : Column q (X.dim w)) → Q.target a ≢ w → arrow_dot X n s a r (placed w y) ≡ 0
  image_elsewhere n a r w s y d = sum-zeros q (X.dim (Q.target a)) _ (λ j l. ap (mul q _) (away j l) ∙ mul_zero q _)
    where
      away : (j : ℕ) → j < X.dim (Q.target a) → placed w y (total (Q.target a) X.dim + j) ≡ 0
      away j l = elim (cases_lt (Q.target a) w) [
        | inl before ↦ placed-before w (total (Q.target a) X.dim + j) y (let g = total_grows X.dim w (Q.target a) before in omega arith)
        | inr behind ↦ placed-behind w (total (Q.target a) X.dim + j) y (let g = total_grows X.dim (Q.target a) w (omega arith) in omega arith)
      ]

  module _ (k n m count : ℕ) (old new : List ℕ) (size : n ≡ total Q.vertices X.dim) (few : count ≤ m) (held : HoldPaths X k n m old) (c : IsClearFrom (count * n) old)
      (asked : AskImages X n m count Q.arrows old new) where
    fits : (w : ℕ) → w < Q.vertices → total w X.dim + X.dim w ≤ n
    fits w l = let g = total_grows X.dim Q.vertices w l in omega (arith, g, size)

    -- what a column behind an arrow takes to zero
    before_arrow : (a : ℕ) (x : ℕ → ℕ) (y : Column q (X.dim (Q.target a))) → ((r : ℕ) → r < count → arrow_dot X n old a r (placed (Q.target a) y) ≡ 0) → MeetsAt X n m old (Q.source a) (X.mat a · y)
    before_arrow a x y h = record {
      rows = λ r l. elim (cases_lt r count) [
        | inl b ↦ sym (image_placed n a r old y) ∙ h r b
        | inr b ↦ sum-zeros q (X.dim (Q.source a)) _ (λ i j. ap (λ z. mul q z ((X.mat a · y).at i 0)) (c.clear (r * n + total (Q.source a) X.dim + i) (let d = rows_behind r count n b in omega arith)) ∙ zero_mul q _)
      ];
    }
      where
        rows_behind : (r count n : ℕ) → count ≤ r → count * n ≤ r * n
        rows_behind r count n h = mul-le-mul_right n h

    one_more : {v w : ℕ} (p : Path Q v w) → path_length p ≡ suc k → w < Q.vertices → (y : Column q (X.dim w)) → Meets q n m new (placed w y) → along X p · y ≡ zeros q (X.dim v) 1
    unfolding along
    one_more trivial e l y h = absurd (omega arith)
    one_more (then a p) e l y h = elim (cases_lt a Q.arrows) [
      | inl b ↦ mul_assoc_mat (along X p) (X.mat a) y
          ∙ (held.forth (Q.source a) (X.mat a · y) (before_arrow a (placed (Q.target a) y) y (λ r d. asked.forth (placed (Q.target a) y) h a r b d))).along p (omega arith)
      | inr b ↦ absurd (let d = Q.target_past a b in omega arith)
    ]

    pub paths_more : HoldPaths X (suc k) n m new
    unfolding along
    paths_more = record { forth = forth; back = back }
      where
        forth : (w : ℕ) (y : Column q (X.dim w)) → MeetsAt X n m new w y → EndsPaths X (suc k) w y
        forth w y h = elim (cases_lt w Q.vertices) [
          | inl l ↦ record { along = λ p e. one_more p e l y (record { rows = λ r b. dot_placed n w (r * n) new y (fits w l) ∙ h.rows r b }) }
          | inr l ↦ record { along = λ p e. through_zero (along X p) y (X.past w l) }
        ]

        at_target : (a w : ℕ) → Q.target a ≡ w → (y : Column q (X.dim w)) → EndsPaths X (suc k) w y → (r : ℕ) → r < count → r < m → arrow_dot X n old a r (placed w y) ≡ 0
        at_target a w e = subst (λ w. (y : Column q (X.dim w)) → EndsPaths X (suc k) w y → (r : ℕ) → r < count → r < m → arrow_dot X n old a r (placed w y) ≡ 0) e (λ y h r b l.
            image_placed n a r old y
            ∙ (held.back (Q.source a) (X.mat a · y) (record { along = λ p d. sym (mul_assoc_mat (along X p) (X.mat a) y) ∙ h.along (then a p) (ap suc d) })).rows r l)

        back : (w : ℕ) (y : Column q (X.dim w)) → EndsPaths X (suc k) w y → MeetsAt X n m new w y
        back w y h = elim (cases_lt w Q.vertices) [
          | inl l ↦ record {
            rows = λ r b. sym (dot_placed n w (r * n) new y (fits w l)) ∙ (asked.back (placed w y) (λ a r c d. elim (cases_eq (Q.target a) w) [
              | inl e ↦ at_target a w e y h r d (omega (arith, few))
              | inr e ↦ image_elsewhere n a r w old y e
            ])).rows r b;
          }
          | inr l ↦ record { rows = λ r b. sum-zeros q (X.dim w) (λ i. mul q (get_or new (r * n + total w X.dim + i) 0) (y.at i 0)) (λ i c. absurd (let e = X.past w l in omega arith)) }
        ]

  -- The identity matrix holds the paths of no arrows.
  module _ (n m : ℕ) (s : List ℕ) (size : n ≡ total Q.vertices X.dim) (many : n ≤ m) (u : IsUnitRows n n s) where
    zero_column : (w : ℕ) (y : Column q (X.dim w)) → w < Q.vertices → MeetsAt X n m s w y → y ≡ zeros q (X.dim w) 1
    unfolding zeros
    zero_column w y l h = Mat-eq_below _ _ (λ i j a b. let first : j ≡ 0 = omega arith in ap (λ j. y.at i j) first ∙ entry_zero i a)
      where
        place : ℕ → ℕ
        place i = total w X.dim + i

        inside : (i : ℕ) → i < X.dim w → total w X.dim + i < n
        inside i a = let g = total_grows X.dim Q.vertices w l in omega (arith, g, size, a)

        term : (i : ℕ) → i < X.dim w → (t : ℕ) → t < X.dim w → mul q (get_or s ((total w X.dim + i) * n + total w X.dim + t) 0) (y.at t 0) ≡ mul q (delta i t) (y.at t 0)
        term i a t b = ap (λ z. mul q z (y.at t 0)) (
            (let e : (total w X.dim + i) * n + total w X.dim + t ≡ (total w X.dim + i) * n + (total w X.dim + t) = omega arith in ap (λ p. get_or s p 0) e)
            ∙ u.units (total w X.dim + i) (total w X.dim + t) (inside i a) (inside t b)
            ∙ elim (cases_eq i t) [
              | inl e ↦ subst (λ z. delta (total w X.dim + i) (total w X.dim + z) ≡ delta i z) e (delta-same (total w X.dim + i) ∙ sym (delta-same i))
              | inr d ↦ delta-other (total w X.dim + i) (total w X.dim + t) (λ e. d (omega arith)) ∙ sym (delta-other i t d)
            ])

        entry_zero : (i : ℕ) → i < X.dim w → y.at i 0 ≡ 0
        entry_zero i a =
            sym (sum-single q (X.dim w) i (λ t. mul q (delta i t) (y.at t 0)) a (λ t b d. ap (λ z. mul q z (y.at t 0)) (delta-other i t (λ e. d (sym e))) ∙ zero_mul q _)
            ∙ mod-eq_of_lt (mul_below q (delta i i) (y.at i 0)) ∙ ap (λ z. mul q z (y.at i 0)) (delta-same i) ∙ one_mul q (y.at i 0) (y.fits.small i 0))
            ∙ sum-same q (X.dim w) _ _ (λ t b. sym (term i a t b))
            ∙ h.rows (total w X.dim + i) (let d = inside i a in omega (arith, d, many))

    no_arrows : {v w : ℕ} (p : Path Q v w) → path_length p ≡ 0 → (y : Column q (X.dim w)) → y ≡ zeros q (X.dim w) 1 → along X p · y ≡ zeros q (X.dim v) 1
    no_arrows p e y z = ap (λ y. along X p · y) z ∙ mul_zeros (along X p)

    column_of_ends : (w : ℕ) (y : Column q (X.dim w)) → EndsPaths X 0 w y → y ≡ zeros q (X.dim w) 1
    unfolding along
    column_of_ends w y h = sym (one_mul_mat y) ∙ h.along trivial refl

    pub paths_none : HoldPaths X 0 n m s
    unfolding zeros
    paths_none = record {
      forth = λ w y h. record {
        along = λ p e. no_arrows p e y (elim (cases_lt w Q.vertices) [
          | inl l ↦ zero_column w y l h
          | inr l ↦ Mat-eq_below _ _ (λ i j a b. absurd (let e = X.past w l in omega arith))
        ]);
      };
      back = λ w y h. record { rows = λ r l. sum-zeros q (X.dim w) _ (λ i b. ap (λ (y : Column q (X.dim w)). mul q (get_or s (r * n + total w X.dim + i) 0) (y.at i 0)) (column_of_ends w y h) ∙ mul_zero q _) };
    }

  -- No row is left exactly where all paths act as zero.
  module _ (k n m : ℕ) (s : List ℕ) (size : n ≡ total Q.vertices X.dim) (held : HoldPaths X k n m s) where
    pub long_where_clear : ((p : ℕ) → get_or s p 0 ≡ 0) → LongPathsActAsZero X k
    long_where_clear z = record {
      zero = λ {v} {w} p e. equal_on_columns (along X p) (zeros q (X.dim v) (X.dim w)) (λ y.
          (held.forth w y (record { rows = λ r l. sum-zeros q (X.dim w) _ (λ i b. ap (λ a. mul q a (y.at i 0)) (z (r * n + total w X.dim + i)) ∙ zero_mul q _) })).along p e ∙ sym (zeros_mul y));
    }

    pub clear_where_long : LongPathsActAsZero X k → length s ≡ m * n → AreElements q s → (p : ℕ) → get_or s p 0 ≡ 0
    unfolding unit_column
    clear_where_long long len small p = elim (cases_lt p (length s)) [
      | inr past ↦ get_or_past s p 0 past
      | inl below ↦
          let r : ℕ = p / n in
          let c : ℕ = p % n in
          let some : 0 < n = some_column p m n (subst (λ z. p < z) len below) in
          let row : p / n < m = quotient_below p m n (subst (λ z. p < z) len below) in
          let at : p / n * n + p % n ≡ p = (let d = div-add-mod' p n in omega arith) in
          let in_block = place_in X.dim Q.vertices (p % n) (subst (λ z. p % n < z) size (mod-lt p some)) in
          let block : total in_block.0 X.dim + in_block.1 ≡ p % n = in_block.4 in
          sym (ap (λ k. get_or s k 0) (let e : p / n * n + total in_block.0 X.dim + in_block.1 ≡ p = omega arith in e)) ∙ at_place in_block.0 in_block.1 (p / n) in_block.3 row
    ]
      where
        some_column : (p m n : ℕ) → p < m * n → 0 < n
        some_column p m n h = elim (cases_lt 0 n) [ inl l ↦ l | inr z ↦ absurd (let none : n ≡ 0 = omega arith in let bad : p < m * 0 = subst (λ n. p < m * n) none h in omega arith) ]

        quotient_below : (p m n : ℕ) → p < m * n → p / n < m
        quotient_below p m n h = elim (cases_lt (p / n) m) [ inl l ↦ l | inr g ↦ absurd (let d = div-add-mod' p n in let e = mul-le-mul_right n g in omega arith) ]

        at_place : (w i r : ℕ) → i < X.dim w → r < m → get_or s (r * n + total w X.dim + i) 0 ≡ 0
        at_place w i r b l =
            sym (sum-single q (X.dim w) i (λ t. mul q (get_or s (r * n + total w X.dim + t) 0) ((unit_column q (X.dim w) i).at t 0)) b
            (λ t c d. ap (mul q _) (unit_other w i t b d) ∙ mul_zero q _)
            ∙ mod-eq_of_lt (mul_below q _ _) ∙ ap (mul q (get_or s (r * n + total w X.dim + i) 0)) (unit_there w i b) ∙ mul_one q _ (small.small _))
            ∙ (held.back w (unit_column q (X.dim w) i) (record { along = λ {v} p e. ap (λ z. z · unit_column q (X.dim w) i) (long.zero p e) ∙ zeros_mul (unit_column q (X.dim w) i) })).rows r l
          where
            unit_other : (w i t : ℕ) → i < X.dim w → t ≢ i → (unit_column q (X.dim w) i).at t 0 ≡ 0
            unit_other w i t b d = transpose-at (unit q (X.dim w) i) t 0 ∙ unit-at q (X.dim w) i t ∙ one-at q (X.dim w) i t b ∙ delta-other i t (λ e. d (sym e))

            unit_there : (w i : ℕ) → i < X.dim w → (unit_column q (X.dim w) i).at i 0 ≡ 1
            unit_there w i b = transpose-at (unit q (X.dim w) i) i 0 ∙ unit-at q (X.dim w) i i ∙ one-at q (X.dim w) i i b ∙ delta-same i

pub image-more : (q : Gf) (n : ℕ) (s : List ℕ) (from : ℕ) (m : PlainMatrix) (j : ℕ) → sum_to q (n + 1) (λ i. mul q (get_or s (from + i) 0) (entry m.rows i j)) ≡ add q (sum_to q n (λ i. mul q (get_or s (from + i) 0) (entry m.rows i j))) (mul q (get_or s (from + n) 0) (entry m.rows n j))
image-more q n s from m j = rw add-one (sum-suc q n _)

-- Unit rows, written one after another over zeros.
pub record AreUnitsUpTo (n k : ℕ) (s : List ℕ) : Type 0 where
  pub units : (r i : ℕ) → r < k → i < n → get_or s (r * n + i) 0 ≡ delta r i
  pub behind : (p : ℕ) → k * n ≤ p → get_or s p 0 ≡ 0

pub units-more : (n k : ℕ) (s : List ℕ) → k < n → n * n ≤ length s → AreUnitsUpTo n k s → AreUnitsUpTo n (k + 1) (set s (k * n + k) 1)
units-more n k s b len u = record {
  units = λ r i l c. elim (cases_eq r k) [
    | inl e ↦ elim (cases_eq i k) [
      | inl d ↦ ap₂ (λ r i. get_or (set s (k * n + k) 1) (r * n + i) 0) e d ∙ get_or-set_same s (k * n + k) 1 0 (inside k n b len) ∙ sym (ap₂ delta e d ∙ delta-same k)
      | inr d ↦ get_or-set_other s (k * n + k) (r * n + i) 1 0 (λ h. d (let same : r * n ≡ k * n = ap (λ r. r * n) e in omega (arith, h, same)))
          ∙ u.behind (r * n + i) (let same : r * n ≡ k * n = ap (λ r. r * n) e in omega (arith, same)) ∙ sym (delta-other r i (λ h. d (sym h ∙ e)))
    ]
    | inr d ↦ get_or-set_other s (k * n + k) (r * n + i) 1 0 (λ h. let g = row_step n r k (omega arith) in omega (arith, g, h)) ∙ u.units r i (omega arith) c
  ];
  behind = λ p h. get_or-set_other s (k * n + k) p 1 0 (λ e. let g = row_step n k (k + 1) (omega arith) in omega (arith, g, e)) ∙ u.behind p (let g = row_step n k (k + 1) (omega arith) in omega (arith, g));
}
  where
    inside : (k n : ℕ) → k < n → n * n ≤ length s → k * n + k < length s
    inside k n b l = let g = row_step n k n b in omega (arith, g)

pub asks_after : (q : Gf) (n m : ℕ) (P : (ℕ → ℕ) → Type 0) (a b c : List ℕ) → AsksMore q n m a b (λ x. ⊤) → AsksMore q n m b c P → AsksMore q n m a c P
asks_after q n m P a b c f g = record { before = λ x h. f.before x (g.before x h); more = g.more; enough = λ x h p. g.enough x (f.enough x h tt) p }

pub units_all : (n k : ℕ) (s : List ℕ) → k ≡ n → AreUnitsUpTo n k s → IsUnitRows n n s
units_all n k s e u = subst (λ k. IsUnitRows n k s) e (record { units = u.units; behind = u.behind })

-- One arrow more in a path, over rows that stand in another slice.
pub paths_copied : {q : Gf} {Q : Quiver} (X : Rep q Q) (k n m count : ℕ) (old new copy : List ℕ) → copy ≡ new → n ≡ total Q.vertices X.dim → count ≤ m → HoldPaths X k n m old → IsClearFrom (count * n) old
    → AskImages X n m count Q.arrows old new → HoldPaths X (k + 1) n m copy
paths_copied X k n m count old new copy e size few held c asked =
    let next : suc k ≡ k + 1 = omega arith in
    subst (λ j. HoldPaths X j n m copy) next (subst (HoldPaths X (suc k) n m) (sym e) (paths_more X k n m count old new size few held c asked))
