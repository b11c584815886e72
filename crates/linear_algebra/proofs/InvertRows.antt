-- A one-sided inverse of a square matrix, as a list of rows, is its inverse.
use Rattle.std.proofs.Common.{ℕ, ◌≡◌, List, sym, ap, ◌∙◌}
use Rattle.linear_algebra.specs.Field.{Gf}
use Rattle.linear_algebra.specs.Rows.{IsGrid, product, identity}
use Rattle.linear_algebra.specs.RowSolutions.{IsSolution, IsInverse}
use Rattle.linear_algebra.specs.Matrix.{one, ◌·◌}
use Rattle.linear_algebra.specs.Typed.{as_mat, grid_of}
use Rattle.linear_algebra.proofs.Typed.{as_mat-product, as_mat-identity, IsGrid-product, IsGrid-identity, grid_of-as_mat}
use Rattle.linear_algebra.proofs.Dimension.{square_inverse}

pub IsInverse-solution : (q : Gf) (n : ℕ) (a x : List (List ℕ)) → IsGrid q n n a → IsSolution q n n n a (identity n) x → IsInverse q n a x
IsInverse-solution q n a x g s = record {
  grid = s.grid;
  left = s.solves;
  right =
      sym (grid_of-as_mat q n n (product q n a x) (IsGrid-product q n n n a x g s.grid))
      ∙ ap grid_of (as_mat-product q n n n a x g s.grid ∙ square_inverse (as_mat q n n x) (as_mat q n n a) left ∙ sym (as_mat-identity q n))
      ∙ grid_of-as_mat q n n (identity n) (IsGrid-identity q n);
}
  where
    left : as_mat q n n x · as_mat q n n a ≡ one q n
    left = sym (as_mat-product q n n n x a s.grid g) ∙ ap (as_mat q n n) s.solves ∙ as_mat-identity q n

pub IsSolution-inverse : (q : Gf) (n : ℕ) (a x : List (List ℕ)) → IsInverse q n a x → IsSolution q n n n a (identity n) x
IsSolution-inverse q n a x h = record { grid = h.grid; solves = h.left }
