-- A row of a matrix has coordinates in the basis in reduced row form of its rows.
use Rattle.std.proofs.Common.{ℕ, ◌<◌, ◌≡◌, List, [], sym, ap, ◌∙◌, subst}
use Rattle.std.specs.Prelude.{slice_index_or}
use Rattle.linear_algebra.specs.Field.{order}
use Rattle.linear_algebra.specs.Rank.{IsInSpan}
use Rattle.linear_algebra.specs.Rows.{IsRow}
use Rattle.linear_algebra.specs.Typed.{as_mat, as_row}
use Rattle.linear_algebra.proofs.Rows.{row-entry}
use Rattle.linear_algebra.proofs.Solving.{row_in_span}
use Rattle.linear_algebra.proofs.Typed.{row-as_mat}
use Rattle.fp_linear.specs.Matrix.{PlainMatrix, plain, IsMatrix}
use Rattle.row_spaces.specs.RowSpaces.{typed, IsReducedMatrix, IsRowFormOf}

module _ (m b : PlainMatrix) (e : b ≡ plain m.field b.row_count m.col_count b.rows) where
  pub reduced_here : IsRowFormOf (typed m) (as_mat m.field b.row_count m.col_count b.rows) → IsReducedMatrix (typed b)
  reduced_here f = subst (λ (z : PlainMatrix). IsReducedMatrix (typed z)) (sym e) f.reduced

  module _ (i : ℕ) (x : List ℕ) (h : i < m.row_count) (s : x ≡ slice_index_or m.rows i []) where
    pub inside_here : IsRowFormOf (typed m) (as_mat m.field b.row_count m.col_count b.rows) → IsInSpan (typed b) (as_row b.field b.col_count x)
    inside_here f = subst (λ (z : PlainMatrix). IsInSpan (typed z) (as_row z.field z.col_count x)) (sym e)
        (subst (IsInSpan (as_mat m.field b.row_count m.col_count b.rows)) (row-as_mat m.field m.row_count m.col_count m.rows i h ∙ ap (as_row m.field m.col_count) (sym s))
        (row_in_span (as_mat m.field b.row_count m.col_count b.rows) (typed m) i f.spans))

    pub row_here : IsMatrix m → IsRow b.field b.col_count x
    row_here k = subst (λ (z : PlainMatrix). IsRow z.field z.col_count x) (sym e) (subst (IsRow m.field m.col_count) (sym s) (record {
      count = k.grid.width i h;
      small = λ j. subst (λ y. y < order m.field) (sym (row-entry m.rows i j)) (k.grid.small i j);
    }))
