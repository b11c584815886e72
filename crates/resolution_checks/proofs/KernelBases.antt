-- What is computed for a kernel is what the conditions speak of.
use Rattle.std.proofs.Common.{ℕ, ◌<◌, ◌≡◌, inl, inr, sym, ap, ◌∙◌, subst}
use Rattle.std.proofs.lemmas.Bool.{cases_lt}
use Rattle.linear_algebra.specs.Field.{Gf}
use Rattle.linear_algebra.specs.Matrix.{Mat, Row, zeros, ◌·◌}
use Rattle.linear_algebra.specs.Rank.{IsInSpan}
use Rattle.linear_algebra.specs.RowForm.{IsRowReduced, selector}
use Rattle.linear_algebra.proofs.Families.{in_span_zeros}
use Rattle.linear_algebra.proofs.MatrixLaws.{mul_assoc_mat, mul_zeros}
use Rattle.linear_algebra.proofs.Solving.{in_span_trans}
use Rattle.linear_algebra.proofs.Subspaces.{through_zero}
use Rattle.linear_algebra.proofs.Dimension.{complement, kernel_spans}
use Rattle.linear_algebra.proofs.RowForm.{reduced_form, reduced_coefficients}
use Rattle.linear_algebra.proofs.RowFormUnique.{row_form_unique}
use Rattle.representations.proofs.MatrixExtras.{span_of_rows}
use Rattle.representations.specs.Quiver.{Quiver}
use Rattle.representations.specs.Rep.{Rep}
use Rattle.claim_conditions.specs.KernelParts.{kernel_rows, IsClosed}

-- A basis of the kernel in reduced row form is the only one.
pub kernel_basis_once : {q : Gf} {m n k : ℕ} (f : Mat q m n) (K : Mat q k m) (pivot : ℕ → ℕ) → IsRowReduced K pivot → K · f ≡ zeros q k n → ((x : Row q m) → x · f ≡ zeros q 1 n → IsInSpan K x)
    → (k ≡ (reduced_form (complement f).kernel).size) × ((i j : ℕ) → K.at i j ≡ (reduced_form (complement f).kernel).rows.at i j)
kernel_basis_once {q} {m} {n} f K pivot r kills spans =
    let G = reduced_form (complement f).kernel in
    let killed : G.rows · f ≡ zeros q G.size n =
    ap (λ z. z · f) (sym G.spanned.is) ∙ mul_assoc_mat G.spanned.by (complement f).kernel f ∙ ap (λ z. G.spanned.by · z) (complement f).kernel_kills ∙ mul_zeros G.spanned.by in
    row_form_unique K G.rows pivot G.pivot r G.reduced
    (in_span_trans G.rows (complement f).kernel K G.spans (kernel_spans f (complement f) K kills))
    (span_of_rows K G.rows (λ y. spans (y · G.rows) (mul_assoc_mat y G.rows f ∙ ap (λ z. y · z) killed ∙ mul_zeros y)))

-- The coefficients of rows over a basis in reduced row form are their entries at the pivots; rows are in its span exactly where these give them back.
module _ {q : Gf} {m k n : ℕ} (K : Mat q m n) (pivot : ℕ → ℕ) (r : IsRowReduced K pivot) (y : Mat q k n) where
  pub coefficients_at_pivots : (s : IsInSpan K y) → s.by ≡ y · selector q n m pivot
  coefficients_at_pivots s = sym (reduced_coefficients K pivot r s.by) ∙ ap (λ z. z · selector q n m pivot) s.is

  pub given_back : IsInSpan K y → y · selector q n m pivot · K ≡ y
  given_back s = ap (λ z. z · K) (sym (coefficients_at_pivots s)) ∙ s.is

-- Numbers that are no arrows lead nowhere.
pub closed_by_arrows : {q : Gf} {Q : Quiver} (X : Rep q Q) {n : ℕ → ℕ} (f : (w : ℕ) → Mat q (X.dim w) (n w))
    → ((a : ℕ) → a < Q.arrows → IsInSpan (kernel_rows X f (Q.target a)) (kernel_rows X f (Q.source a) · X.mat a)) → IsClosed X f
closed_by_arrows {q} {Q} X f h a = elim (cases_lt a Q.arrows) [
  | inl l ↦ h a l
  | inr l ↦ subst (IsInSpan (kernel_rows X f (Q.target a))) (sym (through_zero (kernel_rows X f (Q.source a)) (X.mat a) (X.past (Q.source a) (Q.source_past a l)))) (in_span_zeros _ (kernel_rows X f (Q.target a)))
]
