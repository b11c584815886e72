use Rattle.std.proofs.Common.{◌≡◌}
use Rattle.linear_algebra.specs.Field.{Gf}
use Rattle.linear_algebra.specs.Rows.{list_of}
use Rattle.representations.specs.Quiver.{Quiver}
use Rattle.module_types.specs.Shapes.{IsModule}
use Rattle.module_faults.proofs.DualLists.{dual_matrix_of}
use Rattle.module_operations.proofs.duals.dual.Given as goal

abbrev pub invariant-loop-arrow : goal.invariant-loop-arrow
invariant-loop-arrow l = (q : Gf) (Q : Quiver) → IsModule q Q l.m → l.matrices.items ≡ list_of l.arrow (dual_matrix_of q Q l.m)
