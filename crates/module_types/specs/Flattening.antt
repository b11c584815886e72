-- A map as one row: its matrices vertex by vertex in order of declaration, each row by row. (Assem, Simson, Skowroński, volume 1, chapter III, 1.)
use Rattle.std.specs.Prelude.{ℕ, ◌+◌, ◌*◌}
use Rattle.linear_algebra.specs.Field.{Gf}
use Rattle.linear_algebra.specs.Matrix.{Mat, Row}
use Rattle.linear_algebra.specs.BlockFamilies.{total}
use Rattle.linear_algebra.specs.Solutions.{flatten_all, unflatten_all}
use Rattle.representations.specs.Quiver.{Quiver}
use Rattle.representations.specs.Rep.{Rep}
use Rattle.representations.specs.HomSpace.{unknowns}

module _ {q : Gf} {Q : Quiver} (X Y : Rep q Q) where
  -- the row of matrices at the vertices, and the matrices of a row
  abbrev pub flat_family : ((v : ℕ) → Mat q (X.dim v) (Y.dim v)) → Row q (unknowns X Y)
  flat_family f = flatten_all Q.vertices X.dim Y.dim f

  abbrev pub family_of_row : Row q (unknowns X Y) → (v : ℕ) → Mat q (X.dim v) (Y.dim v)
  family_of_row x = unflatten_all Q.vertices X.dim Y.dim x

  -- the place of row i and column j of the matrix at v
  abbrev pub flat_place : (v i j : ℕ) → ℕ
  flat_place v i j = total v (λ w. X.dim w * Y.dim w) + (i * Y.dim v + j)
