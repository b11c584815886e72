-- The matrix of an arrow on spaces of rows, from matrices that are found at their places.
use Rattle.std.proofs.Common.{ℕ, ◌≤◌, ◌≡◌, ◌*◌, List, sym, ap, ap₂, ◌∙◌, arith, subst}
use Rattle.std.proofs.Math.Nat.{mul-le-mul}
use Rattle.linear_algebra.specs.Field.{Gf}
use Rattle.linear_algebra.specs.Matrix.{◌·◌}
use Rattle.linear_algebra.specs.Rank.{IsInSpan}
use Rattle.linear_algebra.specs.Rows.{IsGrid, product}
use Rattle.linear_algebra.specs.Typed.{as_mat}
use Rattle.linear_algebra.proofs.Typed.{as_mat-product}
use Rattle.fp_linear.specs.Matrix.{PlainMatrix, plain, IsMatrix, most_entries}
use Rattle.row_spaces.specs.RowSpaces.{typed, IsReducedMatrix, AreCoordinates}
use Rattle.module_types.specs.Shapes.{HasShape}

-- A matrix that is no larger than that of a module may be has few entries.
pub few_entries : (m n : ℕ) → m ≤ 256 → n ≤ 256 → m * n ≤ most_entries
few_entries m n h k = let e : m * n ≤ 256 * 256 = mul-le-mul h k in omega (arith, e)

-- A product of two matrices whose rows are combinations of those of a third.
pub record AreInside (q : Gf) (k m n l : ℕ) (s a t : List (List ℕ)) : Type 0 where
  pub source : IsGrid q k m s
  pub along : IsGrid q m n a
  pub reduced : IsReducedMatrix (as_mat q l n t)
  pub inside : IsInSpan (as_mat q l n t) (as_mat q k m s · as_mat q m n a)

-- What is asked for the coordinates of the product, whichever matrices have these rows.
module _ (q : Gf) (k m n l : ℕ) (s a t : List (List ℕ)) (h : AreInside q k m n l s a t) (source matrix target : PlainMatrix) (es : source ≡ plain q k m s) (em : matrix ≡ plain q m n a) (et : target ≡ plain q l n t) where
  pub matrix_field : matrix.field ≡ source.field
  matrix_field = ap (λ (x : PlainMatrix). x.field) em ∙ sym (ap (λ (x : PlainMatrix). x.field) es)

  pub matrix_rows : matrix.row_count ≡ source.col_count
  matrix_rows = ap (λ (x : PlainMatrix). x.row_count) em ∙ sym (ap (λ (x : PlainMatrix). x.col_count) es)

  pub product_size : k ≤ 256 → n ≤ 256 → source.row_count * matrix.col_count ≤ most_entries
  product_size small few = subst (λ (x : PlainMatrix). x.row_count * matrix.col_count ≤ most_entries) (sym es) (subst (λ (x : PlainMatrix). k * x.col_count ≤ most_entries) (sym em) (few_entries k n small few))

  pub target_reduced : IsReducedMatrix (typed target)
  target_reduced = subst (λ (x : PlainMatrix). IsReducedMatrix (typed x)) (sym et) h.reduced

  module _ (along : PlainMatrix) (ea : along ≡ plain source.field source.row_count matrix.col_count (product source.field matrix.col_count source.rows matrix.rows)) where
    along_is : along ≡ plain q k n (product q n s a)
    along_is = ea ∙ ap₂ (λ (x y : PlainMatrix). plain x.field x.row_count y.col_count (product x.field y.col_count x.rows y.rows)) es em

    pub along_field : along.field ≡ target.field
    along_field = ap (λ (x : PlainMatrix). x.field) along_is ∙ sym (ap (λ (x : PlainMatrix). x.field) et)

    pub along_width : along.col_count ≡ target.col_count
    along_width = ap (λ (x : PlainMatrix). x.col_count) along_is ∙ sym (ap (λ (x : PlainMatrix). x.col_count) et)

    product_is : as_mat q k n (product q n s a) ≡ as_mat q k m s · as_mat q m n a
    product_is = as_mat-product q k m n s a h.source h.along

    pub along_inside : IsInSpan (typed target) (as_mat target.field along.row_count target.col_count along.rows)
    along_inside = subst (λ (x : PlainMatrix). IsInSpan (typed x) (as_mat x.field along.row_count x.col_count along.rows)) (sym et)
        (subst (λ (x : PlainMatrix). IsInSpan (as_mat q l n t) (as_mat q x.row_count n x.rows)) (sym along_is) (subst (IsInSpan (as_mat q l n t)) (sym product_is) h.inside))

    module _ (result : PlainMatrix) (er : result ≡ plain target.field along.row_count target.row_count result.rows) (matrix_kept : IsMatrix result)
        (c : AreCoordinates (typed target) (as_mat target.field along.row_count target.col_count along.rows) (as_mat target.field along.row_count target.row_count result.rows)) where
      result_is : result ≡ plain q k l result.rows
      result_is = er ∙ ap₂ (λ (x y : PlainMatrix). plain x.field y.row_count x.row_count result.rows) et along_is

      pub result_shape : HasShape q k l result
      result_shape = record {
        matrix = matrix_kept;
        field = ap (λ (x : PlainMatrix). x.field) result_is;
        row_count = ap (λ (x : PlainMatrix). x.row_count) result_is;
        col_count = ap (λ (x : PlainMatrix). x.col_count) result_is;
      }

      pub result_combines : as_mat q k l result.rows · as_mat q l n t ≡ as_mat q k m s · as_mat q m n a
      result_combines =
          (subst (λ (x : PlainMatrix). AreCoordinates (as_mat q l n t) (as_mat q x.row_count n x.rows) (as_mat q x.row_count l result.rows)) along_is
          (subst (λ (x : PlainMatrix). AreCoordinates (typed x) (as_mat x.field along.row_count x.col_count along.rows) (as_mat x.field along.row_count x.row_count result.rows)) et c)).combine
          ∙ product_is
