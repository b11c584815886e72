-- Products of matrices in slices that are zero.
use Rattle.std.proofs.Common.{ℕ, zero, suc, ◌≡◌, ◌<◌, ◌≤◌, ◌+◌, ◌*◌, List, get_or, refl, sym, ap, ap₂, ◌∙◌, arith, subst, add-one}
use Rattle.std.specs.Prelude.{slice_index}
use Rattle.linear_algebra.specs.Field.{Gf, add, mul}
use Rattle.linear_algebra.specs.Sums.{sum_to, sum-none, sum-suc, sum-same}
use Rattle.linear_algebra.specs.Matrix.{Mat, Mat-eq_below, zeros, ◌·◌}
use Rattle.linear_algebra.specs.Rows.{rows_of}
use Rattle.linear_algebra.specs.Typed.{as_mat}
use Rattle.linear_algebra.proofs.Typed.{as_mat-entry}
use Rattle.fp_linear.specs.Slices.{AreElements, cell}
use Rattle.fp_linear.proofs.Cells.{cell-is, cell-entry, IsGrid-rows_of}
use Rattle.resolution_checks.specs.Products.{partial_entry, IsZeroRow, IsZeroProduct}

pub entry-more : (q : Gf) (k n : ℕ) (f g : List ℕ) (i j p : ℕ) → partial_entry q k n f g i j (p + 1) ≡ add q (partial_entry q k n f g i j p) (mul q (get_or f (i * k + p) 0) (get_or g (p * n + j) 0))
entry-more q k n f g i j p = rw add-one (sum-suc q p _)

pub slice_entry : (q : Gf) (m n : ℕ) (s : List ℕ) → AreElements q s → (i j : ℕ) → i < m → j < n → (as_mat q m n (rows_of m n s)).at i j ≡ get_or s (i * n + j) 0
slice_entry q m n s small i j l k = as_mat-entry q m n (rows_of m n s) (IsGrid-rows_of q m n s small) i j ∙ cell-entry m n s i j l k ∙ cell-is n s i j

module _ {q : Gf} {m k n : ℕ} (A : Mat q m k) (B : Mat q k n) (f g : List ℕ) (sf : AreElements q f) (sg : AreElements q g) (ea : as_mat q m k (rows_of m k f) ≡ A) (eb : as_mat q k n (rows_of k n g) ≡ B) where
  product_at : (i j : ℕ) → i < m → j < n → (A · B).at i j ≡ partial_entry q k n f g i j k
  unfolding ◌·◌
  product_at i j l b = sum-same q k _ _ (λ t d. ap₂ (mul q)
      (ap (λ (M : Mat q m k). M.at i t) (sym ea) ∙ slice_entry q m k f sf i t l d)
      (ap (λ (M : Mat q k n). M.at t j) (sym eb) ∙ slice_entry q k n g sg t j d b))

  pub zero_product : IsZeroProduct q m k n f g → A · B ≡ zeros q m n
  unfolding zeros
  zero_product z = Mat-eq_below _ _ (λ i j l b. product_at i j l b ∙ (z.each i l).at j b)

  pub product_zero : A · B ≡ zeros q m n → IsZeroProduct q m k n f g
  unfolding zeros
  product_zero e = record { each = λ i l. record { at = λ j b. sym (product_at i j l b) ∙ ap (λ (M : Mat q m n). M.at i j) e } }
