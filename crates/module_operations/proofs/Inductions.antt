-- The matrix of an arrow on quotients, from matrices that are found at their places.
use Rattle.std.proofs.Common.{ℕ, ◌≤◌, ◌≡◌, ◌*◌, List, sym, ap, ap₂, ◌∙◌, subst}
use Rattle.linear_algebra.specs.Field.{Gf}
use Rattle.linear_algebra.specs.Matrix.{Mat, Row, zeros, ◌·◌}
use Rattle.linear_algebra.specs.RowForm.{IsCoReduced}
use Rattle.linear_algebra.specs.Rows.{IsGrid, product}
use Rattle.linear_algebra.specs.Typed.{as_mat}
use Rattle.linear_algebra.proofs.Typed.{as_mat-product}
use Rattle.fp_linear.specs.Matrix.{PlainMatrix, plain, IsMatrix, most_entries}
use Rattle.row_spaces.specs.RowSpaces.{typed, IsFactor}
use Rattle.module_types.specs.Shapes.{HasShape}
use Rattle.module_operations.proofs.Restrictions.{few_entries}

-- A product of two matrices that vanishes where a co-reduced one does.
pub record AreVanishing (q : Gf) (n c m k : ℕ) (s a t : List (List ℕ)) : Type 0 where
  pub along : IsGrid q n m a
  pub target : IsGrid q m k t
  pub coreduced : (place : ℕ → ℕ) × IsCoReduced (as_mat q n c s) place
  pub vanishes : (x : Row q n) → x · as_mat q n c s ≡ zeros q 1 c → x · (as_mat q n m a · as_mat q m k t) ≡ zeros q 1 k

-- What is asked for the factor of the product, whichever matrices have these rows.
module _ (q : Gf) (n c m k : ℕ) (s a t : List (List ℕ)) (h : AreVanishing q n c m k s a t) (source matrix target : PlainMatrix) (es : source ≡ plain q n c s) (em : matrix ≡ plain q n m a) (et : target ≡ plain q m k t) where
  pub onto_field : target.field ≡ matrix.field
  onto_field = ap (λ (x : PlainMatrix). x.field) et ∙ sym (ap (λ (x : PlainMatrix). x.field) em)

  pub onto_rows : target.row_count ≡ matrix.col_count
  onto_rows = ap (λ (x : PlainMatrix). x.row_count) et ∙ sym (ap (λ (x : PlainMatrix). x.col_count) em)

  pub onto_size : n ≤ 256 → k ≤ 256 → matrix.row_count * target.col_count ≤ most_entries
  onto_size small few = subst (λ (x : PlainMatrix). x.row_count * target.col_count ≤ most_entries) (sym em) (subst (λ (x : PlainMatrix). n * x.col_count ≤ most_entries) (sym et) (few_entries n k small few))

  pub source_coreduced : (place : ℕ → ℕ) × IsCoReduced (typed source) place
  source_coreduced = subst (λ (x : PlainMatrix). (place : ℕ → ℕ) × IsCoReduced (typed x) place) (sym es) h.coreduced

  module _ (along : PlainMatrix) (ea : along ≡ plain matrix.field matrix.row_count target.col_count (product matrix.field target.col_count matrix.rows target.rows)) where
    along_is : along ≡ plain q n k (product q k a t)
    along_is = ea ∙ ap₂ (λ (x y : PlainMatrix). plain x.field x.row_count y.col_count (product x.field y.col_count x.rows y.rows)) em et

    pub along_field : along.field ≡ source.field
    along_field = ap (λ (x : PlainMatrix). x.field) along_is ∙ sym (ap (λ (x : PlainMatrix). x.field) es)

    pub along_rows : along.row_count ≡ source.row_count
    along_rows = ap (λ (x : PlainMatrix). x.row_count) along_is ∙ sym (ap (λ (x : PlainMatrix). x.row_count) es)

    product_is : as_mat q n k (product q k a t) ≡ as_mat q n m a · as_mat q m k t
    product_is = as_mat-product q n m k a t h.along h.target

    pub along_vanishes : (x : Row source.field source.row_count) → x · typed source ≡ zeros source.field 1 source.col_count
        → x · as_mat source.field source.row_count along.col_count along.rows ≡ zeros source.field 1 along.col_count
    along_vanishes = subst (λ (z : PlainMatrix). (x : Row z.field z.row_count) → x · typed z ≡ zeros z.field 1 z.col_count → x · as_mat z.field z.row_count along.col_count along.rows ≡ zeros z.field 1 along.col_count) (sym es)
        (subst (λ (y : PlainMatrix). (x : Row q n) → x · as_mat q n c s ≡ zeros q 1 c → x · as_mat q n y.col_count y.rows ≡ zeros q 1 y.col_count) (sym along_is)
        (subst (λ (y : Mat q n k). (x : Row q n) → x · as_mat q n c s ≡ zeros q 1 c → x · y ≡ zeros q 1 k) (sym product_is) h.vanishes))

    module _ (result : PlainMatrix) (er : result ≡ plain source.field source.col_count along.col_count result.rows) (matrix_kept : IsMatrix result)
        (f : IsFactor (typed source) (as_mat source.field source.row_count along.col_count along.rows) (as_mat source.field source.col_count along.col_count result.rows)) where
      result_is : result ≡ plain q c k result.rows
      result_is = er ∙ ap₂ (λ (x y : PlainMatrix). plain x.field x.col_count y.col_count result.rows) es along_is

      pub factor_shape : HasShape q c k result
      factor_shape = record {
        matrix = matrix_kept;
        field = ap (λ (x : PlainMatrix). x.field) result_is;
        row_count = ap (λ (x : PlainMatrix). x.row_count) result_is;
        col_count = ap (λ (x : PlainMatrix). x.col_count) result_is;
      }

      pub factor_composes : as_mat q n m a · as_mat q m k t ≡ as_mat q n c s · as_mat q c k result.rows
      factor_composes = sym (
          (subst (λ (y : PlainMatrix). IsFactor (as_mat q n c s) (as_mat q n y.col_count y.rows) (as_mat q c y.col_count result.rows)) along_is
          (subst (λ (z : PlainMatrix). IsFactor (typed z) (as_mat z.field z.row_count along.col_count along.rows) (as_mat z.field z.col_count along.col_count result.rows)) es f)).compose
          ∙ product_is)
