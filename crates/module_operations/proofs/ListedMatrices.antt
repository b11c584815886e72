-- The matrices of a list that have their shapes are what the list is read as.
use Rattle.std.proofs.Common.{ℕ, ◌<◌, ◌≡◌, List, [], length, sym, ap, ◌∙◌, arith, subst}
use Rattle.std.specs.Prelude.{slice_index_or}
use Rattle.std.proofs.lemmas.List.{get_or-map}
use Rattle.linear_algebra.specs.Field.{Gf}
use Rattle.fp_linear.specs.Matrix.{PlainMatrix, plain, IsMatrix}
use Rattle.module_types.specs.Readings.{rows_at}
use Rattle.module_types.specs.Shapes.{HasShape, AreMatrices}

-- A matrix with its shape is given by its rows.
pub plain_of : (q : Gf) (m n : ℕ) (a : PlainMatrix) → HasShape q m n a → a ≡ plain q m n a.rows
plain_of q m n a s = λ i. record { field = s.field i; row_count = s.row_count i; col_count = s.col_count i; rows = a.rows }

module _ (q : Gf) (count : ℕ) (rows columns : ℕ → ℕ) (matrices : List PlainMatrix) (M : AreMatrices q count rows columns matrices) (v : ℕ) (a : PlainMatrix) (l : v < count) where
  inside : v < length matrices
  inside = omega (arith, l, M.counted)

  pub rows_listed : rows_at matrices v ≡ (slice_index_or matrices v a).rows
  rows_listed = get_or-map (λ (m : PlainMatrix). m.rows) matrices v a [] inside

  pub listed : slice_index_or matrices v a ≡ plain q (rows v) (columns v) (rows_at matrices v)
  listed = plain_of q (rows v) (columns v) (slice_index_or matrices v a) (M.each v a l) ∙ ap (plain q (rows v) (columns v)) (sym rows_listed)

  -- one that is found at its place
  pub found : a ≡ slice_index_or matrices v a → a ≡ plain q (rows v) (columns v) (rows_at matrices v)
  found e = e ∙ listed

  pub found_matrix : a ≡ slice_index_or matrices v a → IsMatrix a
  found_matrix e = subst IsMatrix (sym e) (M.each v a l).matrix
