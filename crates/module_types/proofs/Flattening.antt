-- The entries of a flattened map, and how a list of numbers is read as one.
use Rattle.std.proofs.Common.{ℕ, ◌≡◌, ◌<◌, ◌+◌, ◌*◌, List, get_or, refl, sym, ◌∙◌, arith}
use Rattle.linear_algebra.specs.Field.{Gf}
use Rattle.linear_algebra.specs.Matrix.{Mat, Mat-eq_below, Row}
use Rattle.linear_algebra.specs.LinearMaps.{flatten}
use Rattle.linear_algebra.specs.BlockFamilies.{column_block}
use Rattle.linear_algebra.specs.Solutions.{flatten_all, unflatten_all}
use Rattle.linear_algebra.specs.Rows.{IsRow}
use Rattle.linear_algebra.specs.Typed.{as_row}
use Rattle.linear_algebra.proofs.LinearMaps.{flatten-at, unflatten-at}
use Rattle.linear_algebra.proofs.BlockFamilies.{beside_all-at, column_block-at}
use Rattle.linear_algebra.proofs.Solutions.{flatten_unflatten_all, unflatten_flatten_all, flatten_all-same}
use Rattle.linear_algebra.proofs.Typed.{as_row-entry}
use Rattle.fp_linear.proofs.Cells.{place_below}
use Rattle.representations.specs.Quiver.{Quiver}
use Rattle.representations.specs.Rep.{Rep}
use Rattle.representations.specs.Hom.{Hom}
use Rattle.representations.specs.HomSpace.{unknowns, flat}
use Rattle.module_types.specs.Readings.{IsHom, hom_by}
use Rattle.module_types.specs.Flattening.{flat_family, family_of_row, flat_place}

inside : (m n i j : ℕ) → i < m → j < n → i * n + j < m * n
inside m n i j h l = let p : i * n + j < m * n + 0 = place_below n i j m 0 h l in omega (arith, p)

module _ {q : Gf} {Q : Quiver} (X Y : Rep q Q) where
  -- A homomorphism as one row is its matrices flattened.
  pub flat-family : (f : Hom X Y) → flat f ≡ flat_family X Y f.at
  unfolding flat
  flat-family f = refl

  pub flat-hom_by : (f : (v : ℕ) → Mat q (X.dim v) (Y.dim v)) (h : IsHom X Y f) → flat (hom_by X Y f h) ≡ flat_family X Y f
  unfolding flat
  flat-hom_by f h = refl

  pub flat_family-at : (f : (v : ℕ) → Mat q (X.dim v) (Y.dim v)) (v i j : ℕ) → v < Q.vertices → i < X.dim v → j < Y.dim v → (flat_family X Y f).at 0 (flat_place X Y v i j) ≡ (f v).at i j
  unfolding flatten_all
  flat_family-at f v i j l m n =
      beside_all-at (λ v. X.dim v * Y.dim v) Q.vertices (λ v. flatten (f v)) v l 0 (i * Y.dim v + j) (inside (X.dim v) (Y.dim v) i j m n)
      ∙ flatten-at (X.dim v) (Y.dim v) (f v) i j n

  pub family_of_row-at : (x : Row q (unknowns X Y)) (v i j : ℕ) → v < Q.vertices → i < X.dim v → j < Y.dim v → (family_of_row X Y x v).at i j ≡ x.at 0 (flat_place X Y v i j)
  unfolding unflatten_all
  family_of_row-at x v i j l m n =
      unflatten-at (X.dim v) (Y.dim v) (column_block Q.vertices (λ v. X.dim v * Y.dim v) v x) i j n
      ∙ column_block-at (λ v. X.dim v * Y.dim v) Q.vertices v x 0 (i * Y.dim v + j) (inside (X.dim v) (Y.dim v) i j m n)

  -- The row of a family, and the family of a row.
  pub family_of_flat : (f : (v : ℕ) → Mat q (X.dim v) (Y.dim v)) (v : ℕ) → v < Q.vertices → family_of_row X Y (flat_family X Y f) v ≡ f v
  family_of_flat f v l = unflatten_flatten_all Q.vertices X.dim Y.dim f v l

  pub flat_of_family : (x : Row q (unknowns X Y)) → flat_family X Y (family_of_row X Y x) ≡ x
  flat_of_family x = flatten_unflatten_all Q.vertices X.dim Y.dim x

  -- A list with the entries of matrices at their places is read as the row of the matrices.
  pub flat_read : (f : (v : ℕ) → Mat q (X.dim v) (Y.dim v)) (row : List ℕ) → IsRow q (unknowns X Y) row
      → ((v i j : ℕ) → v < Q.vertices → i < X.dim v → j < Y.dim v → get_or row (flat_place X Y v i j) 0 ≡ (f v).at i j) → as_row q (unknowns X Y) row ≡ flat_family X Y f
  flat_read f row r e =
      sym (flat_of_family (as_row q (unknowns X Y) row))
      ∙ flatten_all-same Q.vertices X.dim Y.dim (family_of_row X Y (as_row q (unknowns X Y) row)) f (λ v l. Mat-eq_below _ _ (λ i j m n.
      family_of_row-at (as_row q (unknowns X Y) row) v i j l m n ∙ as_row-entry q (unknowns X Y) row r (flat_place X Y v i j) ∙ e v i j l m n))
