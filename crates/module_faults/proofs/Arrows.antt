-- The first arrow whose square does not commute.
use Rattle.std.proofs.Common.{ℕ, ◌≡◌, List}
use Rattle.linear_algebra.specs.Matrix.{◌·◌}
use Rattle.fp_linear.specs.Matrix.{PlainMatrix}
use Rattle.representations.specs.Quiver.{Quiver}
use Rattle.representations.specs.Rep.{Rep}
use Rattle.linear_algebra.specs.Field.{Gf}
use Rattle.module_types.specs.Readings.{family_of}
use Rattle.module_checks.specs.Products.{AgreeInRows}
use Rattle.module_checks.proofs.Squares.{AreCorners, same_products}

pub square_off : {q : Gf} {Q : Quiver} (X Y : Rep q Q) (matrices : List PlainMatrix) (n : ℕ) (x t s y : PlainMatrix) → AreCorners X Y matrices n x t s y → (AgreeInRows q x t s y x.row_count → ⊥)
    → X.mat n · family_of X Y matrices (Q.target n) ≡ family_of X Y matrices (Q.source n) · Y.mat n → ⊥
square_off X Y matrices n x t s y c g e = g (same_products _ _ _ _ x t s y c.first c.at_target c.at_source c.second e)
