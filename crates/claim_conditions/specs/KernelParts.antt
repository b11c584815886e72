-- The kernel of a family of matrices that need not be a homomorphism: at each vertex by its basis in reduced row form. Where no arrow leads out of it, it
-- is a submodule. (Assem, Simson, Skowroński, volume 1, chapter III, 1.)
use Rattle.std.specs.Prelude.{ℕ}
use Rattle.linear_algebra.specs.Field.{Gf}
use Rattle.linear_algebra.specs.Matrix.{Mat, ◌·◌}
use Rattle.linear_algebra.specs.Rank.{IsInSpan}
use Rattle.linear_algebra.proofs.Dimension.{complement}
use Rattle.linear_algebra.proofs.RowForm.{reduced_form, reduced_independent}
use Rattle.representations.specs.Quiver.{Quiver}
use Rattle.representations.specs.Rep.{Rep}
use Rattle.representations.specs.Submodule.{Submodule}

module _ {q : Gf} {Q : Quiver} (X : Rep q Q) {n : ℕ → ℕ} (f : (w : ℕ) → Mat q (X.dim w) (n w)) where
  -- the basis in reduced row form of the rows that the matrices take to zero
  abbrev pub kernel_rows : (w : ℕ) → Mat q (reduced_form (complement (f w)).kernel).size (X.dim w)
  kernel_rows w = (reduced_form (complement (f w)).kernel).rows

  -- No arrow leads out of them.
  abbrev pub IsClosed : Type 0
  IsClosed = (a : ℕ) → IsInSpan (kernel_rows (Q.target a)) (kernel_rows (Q.source a) · X.mat a)

  abbrev pub kernel_part : IsClosed → Submodule X
  kernel_part closed = record {
    size = λ w. (reduced_form (complement (f w)).kernel).size;
    basis = λ w. kernel_rows w;
    independent = λ w. reduced_independent (kernel_rows w) (reduced_form (complement (f w)).kernel).pivot (reduced_form (complement (f w)).kernel).reduced;
    stable = closed;
  }
