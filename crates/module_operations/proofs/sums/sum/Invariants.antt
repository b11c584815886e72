use Rattle.std.proofs.Common.{◌≡◌}
use Rattle.linear_algebra.specs.Field.{Gf}
use Rattle.linear_algebra.specs.Rows.{list_of}
use Rattle.representations.specs.Quiver.{Quiver}
use Rattle.module_operations.specs.Summands.{AreSummands}
use Rattle.module_operations.proofs.SumLists.{sum_dim, sum_matrix}
use Rattle.module_operations.proofs.sums.sum.Given as goal

abbrev pub invariant-loop-v : goal.invariant-loop-v
invariant-loop-v l = (q : Gf) (Q : Quiver) → AreSummands q Q l.a l.b → l.dims.items ≡ list_of l.v (sum_dim q Q l.a l.b)

abbrev pub invariant-loop-arrow : goal.invariant-loop-arrow
invariant-loop-arrow l = (q : Gf) (Q : Quiver) → AreSummands q Q l.a l.b → l.matrices.items ≡ list_of l.arrow (sum_matrix q Q l.a l.b)
