-- Laws of matrices beside those of linear_algebra.
use Rattle.std.proofs.Common.{ℕ, ◌*◌, ◌≡◌, sym, ◌∙◌, subst, arith}
use Rattle.linear_algebra.specs.Field.{Gf}
use Rattle.linear_algebra.specs.Matrix.{Mat, Mat-eq_below, Row, zeros, ◌⊙◌, ◌·◌}
use Rattle.linear_algebra.specs.Parts.{unit}
use Rattle.linear_algebra.specs.Rank.{IsInSpan}
use Rattle.linear_algebra.specs.BlockFamilies.{total}
use Rattle.linear_algebra.specs.Solutions.{flatten_all}
use Rattle.linear_algebra.proofs.MatrixLaws.{zero_scale}
use Rattle.linear_algebra.proofs.Solutions.{flatten_all-same, flatten_all-scale}
use Rattle.linear_algebra.proofs.PartsLaws.{unit_mul}
use Rattle.linear_algebra.proofs.Solving.{in_span_by_rows}

-- Where each combination of the rows of y is in the span of f, so are the rows.
pub span_of_rows : {q : Gf} {m k n : ℕ} (f : Mat q m n) (y : Mat q k n) → ((x : Row q k) → IsInSpan f (x · y)) → IsInSpan f y
span_of_rows {q} {m} {k} f y h = in_span_by_rows f y (λ i l. subst (IsInSpan f) (unit_mul i y) (h (unit q k i)))

-- A family of zero matrices as one long row.
pub flatten_all-zeros : (q : Gf) (k : ℕ) (rows columns : ℕ → ℕ) → flatten_all k rows columns (λ v. zeros q (rows v) (columns v)) ≡ zeros q 1 (total k (λ v. rows v * columns v))
flatten_all-zeros q k rows columns =
    flatten_all-same k rows columns _ (λ v. 0 ⊙ zeros q (rows v) (columns v)) (λ v h. sym (zero_scale (zeros q (rows v) (columns v))))
    ∙ flatten_all-scale k rows columns 0 (λ v. zeros q (rows v) (columns v)) ∙ zero_scale (flatten_all k rows columns (λ v. zeros q (rows v) (columns v)))

-- A matrix without columns is zero.
pub zero_columns : {q : Gf} {m n : ℕ} → n ≡ 0 → (a : Mat q m n) → a ≡ zeros q m n
zero_columns {q} {m} {n} e a = Mat-eq_below a (zeros q m n) (λ i j h k. absurd (omega arith))
