-- Columns at a vertex as functions of all places, and what rows along an arrow take them to.
use Rattle.std.proofs.Common.{ℕ, ◌<◌, ◌≤◌, ◌≡◌, ◌≢◌, ◌+◌, ◌*◌, ◌-◌, List, get_or, cond, ltb, lt-ltb, le-ltb, sym, ap, ap₂, ◌∙◌, inl, inr, arith}
use Rattle.std.proofs.lemmas.Bool.{cases_lt, cond-true, cond-false}
use Rattle.linear_algebra.specs.Field.{Gf, mul}
use Rattle.linear_algebra.specs.FieldLaws.{mul_zero, mul_assoc}
use Rattle.linear_algebra.specs.Sums.{sum_to, sum-ext, sum-zeros, sum-mul, mul-sum, sum-swap}
use Rattle.linear_algebra.specs.Rows.{entry}
use Rattle.linear_algebra.specs.Matrix.{Column, ◌·◌}
use Rattle.linear_algebra.specs.BlockFamilies.{total}
use Rattle.linear_algebra.proofs.BlockFamilies.{total_grows}
use Rattle.fp_linear.specs.Matrix.{PlainMatrix}
use Rattle.fp_linear.specs.Meeting.{dot}
use Rattle.representations.specs.Quiver.{Quiver}
use Rattle.representations.specs.Rep.{Rep}
use Rattle.module_checks.specs.PathImages.{image_entry, image_dot, arrow_dot}
use Rattle.module_checks.proofs.HomRank.{IsPlainOf}
use Rattle.module_checks.proofs.PathImages.{window}

module _ {q : Gf} {Q : Quiver} (X : Rep q Q) where
  -- An image by the printed matrix of an arrow.
  pub image_of_arrow : (n a r : ℕ) (p : PlainMatrix) (b t : ℕ) (s : List ℕ) → IsPlainOf p (X.mat a) → b ≡ total (Q.source a) X.dim → t ≡ total (Q.target a) X.dim → (x : ℕ → ℕ)
      → image_dot q s (r * n + b) p t x ≡ arrow_dot X n s a r x
  image_of_arrow n a r p b t s f e d x =
      ap (λ k. sum_to q k (λ j. mul q (image_entry q s (r * n + b) p j) (x (t + j)))) f.col_count
      ∙ sum-ext q (X.dim (Q.target a)) _ _ (λ j. ap₂ (mul q)
      (ap (λ k. sum_to q k (λ i. mul q (get_or s (r * n + b + i) 0) (entry p.rows i j))) f.row_count
      ∙ sum-ext q (X.dim (Q.source a)) _ _ (λ i. ap₂ (λ z w. mul q (get_or s (r * n + z + i) 0) w) e (f.entries i j)))
      (ap (λ z. x (z + j)) d))

  -- A column at a vertex as a function of all places.
  pub placed : (w : ℕ) → Column q (X.dim w) → ℕ → ℕ
  placed w y p = cond (ltb p (total w X.dim)) 0 (y.at (p - total w X.dim) 0)

  placed-before : (w p : ℕ) (y : Column q (X.dim w)) → p < total w X.dim → placed w y p ≡ 0
  unfolding placed
  placed-before w p y h = cond-true (ltb p (total w X.dim)) 0 _ (lt-ltb p (total w X.dim) h)

  placed-there : (w i : ℕ) (y : Column q (X.dim w)) → placed w y (total w X.dim + i) ≡ y.at i 0
  unfolding placed
  placed-there w i y =
      let e : total w X.dim + i - total w X.dim ≡ i = omega arith in
      cond-false (ltb (total w X.dim + i) (total w X.dim)) 0 _ (le-ltb (total w X.dim + i) (total w X.dim) (omega arith)) ∙ ap (λ k. y.at k 0) e

  placed-behind : (w p : ℕ) (y : Column q (X.dim w)) → total w X.dim + X.dim w ≤ p → placed w y p ≡ 0
  unfolding placed
  placed-behind w p y h =
      cond-false (ltb p (total w X.dim)) 0 _ (le-ltb p (total w X.dim) (omega arith)) ∙ y.fits.below (p - total w X.dim) 0 (omega arith)

  -- The product of a row with such a function.
  pub dot_placed : (n w start : ℕ) (s : List ℕ) (y : Column q (X.dim w)) → total w X.dim + X.dim w ≤ n
      → dot q n s start (placed w y) ≡ sum_to q (X.dim w) (λ i. mul q (get_or s (start + total w X.dim + i) 0) (y.at i 0))
  unfolding dot
  dot_placed n w start s y h =
      window q (total w X.dim) (X.dim w) n (λ t. mul q (get_or s (start + t) 0) (placed w y t)) h
      (λ t l. ap (mul q (get_or s (start + t) 0)) (placed-before w t y l) ∙ mul_zero q _)
      (λ t l. ap (mul q (get_or s (start + t) 0)) (placed-behind w t y l) ∙ mul_zero q _)
      ∙ sum-ext q (X.dim w) _ _ (λ i. let e : start + (total w X.dim + i) ≡ start + total w X.dim + i = omega arith in ap₂ (λ k z. mul q (get_or s k 0) z) e (placed-there w i y))

  -- An image times it, at the arrow's own target and elsewhere.
  pub image_placed : (n a r : ℕ) (s : List ℕ) (y : Column q (X.dim (Q.target a)))
      → arrow_dot X n s a r (placed (Q.target a) y) ≡ sum_to q (X.dim (Q.source a)) (λ i. mul q (get_or s (r * n + total (Q.source a) X.dim + i) 0) ((X.mat a · y).at i 0))
  unfolding ◌·◌
  image_placed n a r s y =
      let f = λ (i : ℕ). get_or s (r * n + total (Q.source a) X.dim + i) 0 in
      sum-ext q (X.dim (Q.target a)) _ (λ j. sum_to q (X.dim (Q.source a)) (λ i. mul q (f i) (mul q ((X.mat a).at i j) (y.at j 0)))) (λ j.
      ap (mul q (sum_to q (X.dim (Q.source a)) (λ i. mul q (f i) ((X.mat a).at i j)))) (placed-there (Q.target a) j y)
      ∙ sum-mul q (X.dim (Q.source a)) (y.at j 0) (λ i. mul q (f i) ((X.mat a).at i j))
      ∙ sum-ext q (X.dim (Q.source a)) _ _ (λ i. mul_assoc q (f i) ((X.mat a).at i j) (y.at j 0)))
      ∙ sum-swap q (X.dim (Q.target a)) (X.dim (Q.source a)) (λ j i. mul q (f i) (mul q ((X.mat a).at i j) (y.at j 0)))
      ∙ sum-ext q (X.dim (Q.source a)) _ _ (λ i. sym (mul-sum q (X.dim (Q.target a)) (f i) (λ j. mul q ((X.mat a).at i j) (y.at j 0))))

  pub image_elsewhere : (n a r w : ℕ) (s : List ℕ) (y : Column q (X.dim w)) → Q.target a ≢ w → arrow_dot X n s a r (placed w y) ≡ 0
  image_elsewhere n a r w s y d = sum-zeros q (X.dim (Q.target a)) _ (λ j l. ap (mul q _) (away j l) ∙ mul_zero q _)
    where
      away : (j : ℕ) → j < X.dim (Q.target a) → placed w y (total (Q.target a) X.dim + j) ≡ 0
      away j l = elim (cases_lt (Q.target a) w) [
        | inl before ↦ placed-before w (total (Q.target a) X.dim + j) y (let g = total_grows X.dim w (Q.target a) before in omega arith)
        | inr behind ↦ placed-behind w (total (Q.target a) X.dim + j) y (let g = total_grows X.dim (Q.target a) w (omega arith) in omega arith)
      ]
