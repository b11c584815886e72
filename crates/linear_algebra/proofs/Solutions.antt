-- Families of matrices as one long row and back; the solutions of linear equations have a basis in reduced row form.
use Rattle.std.proofs.Common.{ℕ, ◌*◌, ◌<◌, ◌≡◌, ◌+◌, sym, ap, ◌∙◌, arith}
use Rattle.linear_algebra.specs.Field.{Gf}
use Rattle.linear_algebra.specs.Matrix.{Mat, Row, zeros, ◌⊞◌, ◌⊙◌, ◌·◌}
use Rattle.linear_algebra.specs.Rank.{IsInSpan, RankFactorisation}
use Rattle.linear_algebra.specs.LinearMaps.{IsLinear, matrix_of, flatten, unflatten}
use Rattle.linear_algebra.specs.BlockFamilies.{total, column_block}
use Rattle.linear_algebra.specs.Solutions.{flatten_all, unflatten_all, SolutionBasis}
use Rattle.linear_algebra.proofs.MatrixLaws.{mul_assoc_mat, mul_zeros}
use Rattle.linear_algebra.specs.Parts.{row, unit}
use Rattle.linear_algebra.proofs.PartsLaws.{rows_equal, row-mul, row_zeros, unit_mul}
use Rattle.linear_algebra.proofs.Solving.{in_span_by_rows, in_span_trans, right_inverse_cancels}
use Rattle.linear_algebra.proofs.Dimension.{complement, kernel_spans, rank_unique}
use Rattle.linear_algebra.proofs.LinearMaps.{mul-matrix_of, unflatten_flatten, flatten_unflatten, flatten_sum, flatten_scale}
use Rattle.linear_algebra.proofs.BlockFamilies.{beside_all-same, column_block_of, beside_blocks, beside_all-add, beside_all-scale}
use Rattle.linear_algebra.proofs.RowForm.{reduced_form, reduced_independent}
use Rattle.linear_algebra.proofs.Subspaces.{inclusion_size}

module _ {q : Gf} (k : ℕ) (rows columns : ℕ → ℕ) where
  pub unflatten_flatten_all : (f : (v : ℕ) → Mat q (rows v) (columns v)) (v : ℕ) → v < k → unflatten_all k rows columns (flatten_all k rows columns f) v ≡ f v
  unfolding flatten_all unflatten_all
  unflatten_flatten_all f v h =
      ap (unflatten (rows v) (columns v)) (column_block_of (λ v. rows v * columns v) k (λ v. flatten (f v)) v h) ∙ unflatten_flatten (rows v) (columns v) (f v)

  pub flatten_unflatten_all : (x : Row q (total k (λ v. rows v * columns v))) → flatten_all k rows columns (unflatten_all k rows columns x) ≡ x
  unfolding flatten_all unflatten_all
  flatten_unflatten_all x =
      beside_all-same (λ v. rows v * columns v) k _ (λ v. column_block k (λ v. rows v * columns v) v x) (λ v h. flatten_unflatten (rows v) (columns v) (column_block k (λ v. rows v * columns v) v x))
      ∙ beside_blocks (λ v. rows v * columns v) k x

  pub flatten_all-same : (f g : (v : ℕ) → Mat q (rows v) (columns v)) → ((v : ℕ) → v < k → f v ≡ g v) → flatten_all k rows columns f ≡ flatten_all k rows columns g
  unfolding flatten_all
  flatten_all-same f g h = beside_all-same (λ v. rows v * columns v) k _ _ (λ v l. ap flatten (h v l))

  pub flatten_all-sum : (f g : (v : ℕ) → Mat q (rows v) (columns v)) → flatten_all k rows columns (λ v. f v ⊞ g v) ≡ flatten_all k rows columns f ⊞ flatten_all k rows columns g
  unfolding flatten_all
  flatten_all-sum f g =
      beside_all-same (λ v. rows v * columns v) k _ (λ v. flatten (f v) ⊞ flatten (g v)) (λ v h. flatten_sum (rows v) (columns v) (f v) (g v))
      ∙ sym (beside_all-add (λ v. rows v * columns v) k (λ v. flatten (f v)) (λ v. flatten (g v)))

  pub flatten_all-scale : (c : ℕ) (f : (v : ℕ) → Mat q (rows v) (columns v)) → flatten_all k rows columns (λ v. c ⊙ f v) ≡ c ⊙ flatten_all k rows columns f
  unfolding flatten_all
  flatten_all-scale c f =
      beside_all-same (λ v. rows v * columns v) k _ (λ v. c ⊙ flatten (f v)) (λ v h. flatten_scale (rows v) (columns v) c (f v))
      ∙ sym (beside_all-scale (λ v. rows v * columns v) c k (λ v. flatten (f v)))

-- The rows that a linear function takes to zero have a basis in reduced row form; with the rank of its matrix it adds to their length.
pub solution_basis : {q : Gf} {m n : ℕ} (f : Row q m → Row q n) → IsLinear f → SolutionBasis f
solution_basis {q} {m} {n} f h =
    let C = complement (matrix_of f) in
    let B = reduced_form C.kernel in
    let kills : B.rows · matrix_of f ≡ zeros q B.size n = ap (λ z. z · matrix_of f) (sym B.spanned.is) ∙ mul_assoc_mat B.spanned.by C.kernel (matrix_of f) ∙ ap (λ z. B.spanned.by · z) C.kernel_kills ∙ mul_zeros B.spanned.by in
    record {
      size = B.size;
      basis = B.rows;
      pivot = B.pivot;
      reduced = B.reduced;
      solves = λ c. sym (mul-matrix_of f h (c · B.rows)) ∙ mul_assoc_mat c B.rows (matrix_of f) ∙ ap (λ z. c · z) kills ∙ mul_zeros c;
      spans = λ x e. in_span_trans B.rows C.kernel x B.spans (kernel_spans (matrix_of f) C x (mul-matrix_of f h x ∙ e));
      once = λ c d e. right_inverse_cancels B.rows (reduced_independent B.rows B.pivot B.reduced) c d e;
    }

-- The size of each such basis is what the rank of the matrix leaves of the length.
pub solution_size : {q : Gf} {m n : ℕ} (f : Row q m → Row q n) → IsLinear f → (S : SolutionBasis f) (F : RankFactorisation (matrix_of f)) → S.size + F.size ≡ m
solution_size {q} {m} {n} f h S F =
    let C = complement (matrix_of f) in
    let here : IsInSpan S.basis C.kernel = in_span_by_rows S.basis C.kernel (λ i l.
    S.spans (row i C.kernel) (sym (mul-matrix_of f h (row i C.kernel)) ∙ sym (row-mul i C.kernel (matrix_of f)) ∙ ap (row i) C.kernel_kills ∙ row_zeros q C.nullity n i)) in
    let kills : S.basis · matrix_of f ≡ zeros q S.size n = rows_equal _ _ (λ i l.
    row-mul i S.basis (matrix_of f) ∙ mul-matrix_of f h (row i S.basis) ∙ ap f (sym (unit_mul i S.basis)) ∙ S.solves (unit q S.size i) ∙ sym (row_zeros q S.size n i)) in
    let independent = reduced_independent S.basis S.pivot S.reduced in
    let less = inclusion_size S.basis C.kernel independent (kernel_spans (matrix_of f) C S.basis kills) in
    let more = inclusion_size C.kernel S.basis (record { inverse = C.retraction; is = C.kernel_retracts }) here in
    let same = rank_unique C.rank F in
    let whole = C.rank_nullity in
    omega arith
