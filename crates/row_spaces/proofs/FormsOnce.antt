-- Each of the forms is determined by the space.
use Rattle.std.proofs.Common.{ℕ, ◌≡◌, sym, ap, ◌∙◌}
use Rattle.linear_algebra.specs.Field.{Gf}
use Rattle.linear_algebra.specs.Matrix.{Mat, Row, zeros, ◌·◌}
use Rattle.linear_algebra.specs.MatrixLaws.{mul_assoc_mat, mul_zeros}
use Rattle.linear_algebra.specs.Rank.{IsInSpan}
use Rattle.linear_algebra.specs.Parts.{row}
use Rattle.linear_algebra.specs.PartsLaws.{row-mul, row_zeros}
use Rattle.linear_algebra.proofs.Solving.{in_span_trans, in_span_by_rows}
use Rattle.linear_algebra.proofs.RowFormUnique.{row_form_unique}
use Rattle.linear_algebra.proofs.CoReducedUnique.{coreduced_unique}
use Rattle.row_spaces.specs.RowSpaces.{IsRowFormOf, IsKernelBasis, IsQuotientBy}

module _ {q : Gf} {k l m n : ℕ} (f : Mat q m n) where
  pub row_form_once : (a : Mat q k n) (b : Mat q l n) → IsRowFormOf f a → IsRowFormOf f b → (k ≡ l) × ((i j : ℕ) → a.at i j ≡ b.at i j)
  row_form_once a b r s = row_form_unique a b r.reduced.0 s.reduced.0 r.reduced.1 s.reduced.1 (in_span_trans b f a s.spans r.spanned) (in_span_trans a f b r.spans s.spanned)

  kernel_within : (a : Mat q k m) (b : Mat q l m) → IsKernelBasis f a → IsKernelBasis f b → IsInSpan a b
  kernel_within a b r s = in_span_by_rows a b (λ i h. r.spans (row i b) (sym (row-mul i b f) ∙ ap (row i) s.kills ∙ row_zeros q l n i))

  pub kernel_once : (a : Mat q k m) (b : Mat q l m) → IsKernelBasis f a → IsKernelBasis f b → (k ≡ l) × ((i j : ℕ) → a.at i j ≡ b.at i j)
  kernel_once a b r s = row_form_unique a b r.reduced.0 s.reduced.0 r.reduced.1 s.reduced.1
      (in_span_by_rows b a (λ i h. s.spans (row i a) (sym (row-mul i a f) ∙ ap (row i) r.kills ∙ row_zeros q k n i))) (kernel_within a b r s)

-- What a projection onto the quotient takes to zero each other takes to zero.
quotient_within : {q : Gf} {b c m n : ℕ} (f : Mat q m n) (g : Mat q n b) (h : Mat q n c) → IsQuotientBy f g → IsQuotientBy f h → (x : Row q n) → x · h ≡ zeros q 1 c → x · g ≡ zeros q 1 b
quotient_within f g h r s x e =
    let t = s.spans x e in
    ap (λ y. y · g) (sym t.is) ∙ mul_assoc_mat t.by f g ∙ ap (λ y. t.by · y) r.kills ∙ mul_zeros t.by

pub quotient_once : {q : Gf} {b c m n : ℕ} (f : Mat q m n) (g : Mat q n b) (h : Mat q n c) → IsQuotientBy f g → IsQuotientBy f h → (b ≡ c) × ((i j : ℕ) → g.at i j ≡ h.at i j)
quotient_once f g h r s = coreduced_unique g h r.place s.place r.coreduced s.coreduced (quotient_within f g h r s) (quotient_within f h g s r)
