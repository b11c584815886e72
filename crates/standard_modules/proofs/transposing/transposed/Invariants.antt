use Rattle.std.proofs.Common.{◌≡◌}
use Rattle.linear_algebra.specs.Field.{Gf}
use Rattle.linear_algebra.specs.Rows.{list_of}
use Rattle.representations.specs.Quiver.{Quiver}
use Rattle.representations.specs.Rep.{Rep}
use Rattle.representations.specs.Dual.{dual}
use Rattle.module_types.specs.declared.Side.{Side}
use Rattle.module_types.specs.Written.{written}
use Rattle.standard_modules.specs.StandardModules.{matrix_of_arrow}
use Rattle.standard_modules.proofs.transposing.transposed.Given as goal

abbrev pub invariant-loop-arrow : goal.invariant-loop-arrow
invariant-loop-arrow l = (q : Gf) (Q : Quiver) (X : Rep q Q) (side : Side) → l.m ≡ written side X → l.matrices.items ≡ list_of l.arrow (matrix_of_arrow (dual X))
