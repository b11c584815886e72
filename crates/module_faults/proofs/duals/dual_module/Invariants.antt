use Rattle.std.proofs.Common.{◌≡◌}
use Rattle.linear_algebra.specs.Rows.{list_of}
use Rattle.module_types.specs.Algebras.{algebra_at}
use Rattle.module_faults.proofs.DualLists.{dual_matrix_of}
use Rattle.module_faults.proofs.duals.dual_module.Given as goal

abbrev pub invariant-loop-k : goal.invariant-loop-k
invariant-loop-k l = l.matrices.items ≡ list_of l.k (dual_matrix_of l.header.field (algebra_at l.m.side l.header).quiver l.m)
