-- Kernels and quotients from the rows of the free columns.
use Rattle.std.proofs.Common.{ℕ, ◌≡◌, ◌%◌, List, take, sym, ap, ◌∙◌, arith, subst, mul_comm}
use Rattle.std.proofs.lemmas.List.{take_all}
use Rattle.linear_algebra.specs.Field.{Gf, order}
use Rattle.linear_algebra.specs.Matrix.{Mat, Mat-eq_below, transpose}
use Rattle.linear_algebra.specs.MatrixLaws.{transpose_transpose}
use Rattle.linear_algebra.specs.RankExists.{rank_factorisation}
use Rattle.linear_algebra.specs.Ranks.{rank}
use Rattle.linear_algebra.specs.Rows.{entry, IsGrid, transposed}
use Rattle.linear_algebra.specs.Reduced.{ReducesTo}
use Rattle.linear_algebra.specs.Typed.{as_mat}
use Rattle.linear_algebra.proofs.Dimension.{rank_transpose}
use Rattle.linear_algebra.proofs.KernelsBySize.{coreduced_surjective}
use Rattle.linear_algebra.proofs.Ranks.{rank_left_inverse}
use Rattle.linear_algebra.proofs.Solving.{in_span_trans}
use Rattle.linear_algebra.proofs.Rows.{entry-list_of}
use Rattle.linear_algebra.proofs.Typed.{as_mat-at, IsGrid-transposed}
use Rattle.fp_linear.specs.Matrix.{PlainMatrix, plain, IsMatrix}
use Rattle.fp_linear.proofs.RankOf.{rank_of_answer}
use Rattle.row_spaces.specs.RowSpaces.{typed, IsRowFormOf, IsKernelBasis, IsQuotientBy}
use Rattle.row_spaces.specs.FreeColumns.{IsOrthogonalBasis}
use Rattle.row_spaces.proofs.OrthogonalRows.{orthogonal_both, orthogonal_through}
use Rattle.row_spaces.proofs.ReducedForms.{row_form_of, same_shape}

-- The columns of a list of rows, whatever its lengths.
as_mat-columns : (q : Gf) (m n : ℕ) (rows : List (List ℕ)) → as_mat q n m (transposed m n rows) ≡ transpose (as_mat q m n rows)
unfolding transposed transpose
as_mat-columns q m n rows = Mat-eq_below _ _ (λ i j h k.
    as_mat-at q n m (transposed m n rows) i j h k ∙ ap (λ z. z % order q) (entry-list_of n m (λ j i. entry rows i j) i j h k) ∙ sym (as_mat-at q m n rows j i k h))

-- The rows are independent, so that none vanishes in reduced row form.
full_rank : {q : Gf} {k m n : ℕ} (f : Mat q m n) (basis : Mat q k n) → IsOrthogonalBasis f basis → rank basis ≡ k
full_rank f basis o = sym (rank_transpose basis) ∙ rank_left_inverse (transpose basis) (coreduced_surjective (transpose basis) o.place o.coreduced)

whole_form : (q : Gf) (k m n : ℕ) (f : Mat q m n) (rows new : List (List ℕ)) (pivots : List ℕ) (r : ℕ) → IsGrid q k n rows → IsGrid q k n new → ReducesTo q n rows new pivots r
    → IsOrthogonalBasis f (as_mat q k n rows) → IsRowFormOf (as_mat q k n rows) (as_mat q k n new)
unfolding rank
whole_form q k m n f rows new pivots r g h d o =
    let size : r ≡ k = sym (rank_of_answer q k n rows new pivots r g h d (rank_factorisation (as_mat q k n rows))) ∙ full_rank f (as_mat q k n rows) o in
    let all : take k new ≡ new = take_all k new (let c = h.count in omega arith) in
    subst (λ (rs : List (List ℕ)). IsRowFormOf (as_mat q k n rows) (as_mat q k n rs)) all
    (subst (λ (r : ℕ). IsRowFormOf (as_mat q k n rows) (as_mat q r n (take r new))) size (row_form_of q k n rows new pivots r g h d))

kernel_of_form : {q : Gf} {k l m n : ℕ} (f : Mat q m n) (rows : Mat q k n) (basis : Mat q l n) → IsOrthogonalBasis f rows → IsRowFormOf rows basis → IsKernelBasis (transpose f) basis
kernel_of_form f rows basis o r = record {
  reduced = r.reduced;
  kills = orthogonal_both f basis (orthogonal_through rows basis f r.spanned o.orthogonal);
  spans = λ x e. in_span_trans basis rows x r.spans (o.spans x e);
}

pub kernel_in_place : (equations basis new : PlainMatrix) (pivots : List ℕ) (r : ℕ) → basis ≡ plain equations.field basis.row_count equations.col_count basis.rows → IsMatrix basis
    → new ≡ plain basis.field basis.row_count basis.col_count new.rows → IsMatrix new
    → IsOrthogonalBasis (typed equations) (as_mat equations.field basis.row_count equations.col_count basis.rows) → ReducesTo basis.field basis.col_count basis.rows new.rows pivots r
    → IsKernelBasis (transpose (typed equations)) (as_mat equations.field new.row_count equations.col_count new.rows)
kernel_in_place equations basis new pivots r e h d i o red =
    let q = equations.field in
    let n = equations.col_count in
    let k = basis.row_count in
    let grid : IsGrid q k n basis.rows = same_shape (plain q k n basis.rows) basis e h in
    let after : IsGrid q k n new.rows = subst (λ (m : PlainMatrix). IsGrid m.field k m.col_count new.rows) e (same_shape basis new d i) in
    let there : ReducesTo q n basis.rows new.rows pivots r = subst (λ (m : PlainMatrix). ReducesTo m.field m.col_count basis.rows new.rows pivots r) e red in
    subst (λ (k : ℕ). IsKernelBasis (transpose (typed equations)) (as_mat q k n new.rows)) (sym (ap (λ (m : PlainMatrix). m.row_count) d))
    (kernel_of_form (typed equations) (as_mat q k n basis.rows) (as_mat q k n new.rows) o (whole_form q k equations.row_count n (typed equations) basis.rows new.rows pivots r grid after there o))

-- The kernel of a matrix is what its columns are orthogonal to.
pub kernel_of_columns : (matrix equations : PlainMatrix) (l : ℕ) (rows : List (List ℕ)) → equations ≡ plain matrix.field matrix.col_count matrix.row_count (transposed matrix.row_count matrix.col_count matrix.rows)
    → IsKernelBasis (transpose (typed equations)) (as_mat equations.field l equations.col_count rows) → IsKernelBasis (typed matrix) (as_mat matrix.field l matrix.row_count rows)
kernel_of_columns matrix equations l rows e k =
    let q = matrix.field in
    let m = matrix.row_count in
    let n = matrix.col_count in
    let there : IsKernelBasis (transpose (as_mat q n m (transposed m n matrix.rows))) (as_mat q l m rows) = subst (λ (x : PlainMatrix). IsKernelBasis (transpose (typed x)) (as_mat x.field l x.col_count rows)) e k in
    subst (λ (f : Mat q m n). IsKernelBasis f (as_mat q l m rows)) (ap transpose (as_mat-columns q m n matrix.rows) ∙ transpose_transpose (typed matrix)) there

-- The columns of the rows of the free columns are the projection onto the quotient.
pub quotient_of_columns : (matrix columns : PlainMatrix) → columns ≡ plain matrix.field columns.row_count matrix.col_count columns.rows
    → IsOrthogonalBasis (typed matrix) (as_mat matrix.field columns.row_count matrix.col_count columns.rows)
    → IsQuotientBy (typed matrix) (as_mat matrix.field matrix.col_count columns.row_count (transposed columns.row_count columns.col_count columns.rows))
quotient_of_columns matrix columns e o =
    let q = matrix.field in
    let n = matrix.col_count in
    let k = columns.row_count in
    let width : columns.col_count ≡ n = ap (λ (m : PlainMatrix). m.col_count) e in
    subst (λ (w : ℕ). IsQuotientBy (typed matrix) (as_mat q n k (transposed k w columns.rows))) (sym width)
    (subst (λ (g : Mat q n k). IsQuotientBy (typed matrix) g) (sym (as_mat-columns q k n columns.rows))
    (record { place = o.place; coreduced = o.coreduced; kills = o.orthogonal; spans = o.back }))

pub IsMatrix-columns : (m : PlainMatrix) → IsMatrix m → IsMatrix (plain m.field m.col_count m.row_count (transposed m.row_count m.col_count m.rows))
IsMatrix-columns m h = record {
  grid = IsGrid-transposed m.field m.row_count m.col_count m.rows h.grid;
  fits = rw (mul_comm m.col_count m.row_count) h.fits;
}
