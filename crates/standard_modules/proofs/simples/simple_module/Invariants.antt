use Rattle.std.proofs.Common.{◌≡◌}
use Rattle.linear_algebra.specs.Rows.{list_of}
use Rattle.module_types.specs.Algebras.{algebra_at}
use Rattle.module_types.specs.SimpleModules.{simple}
use Rattle.standard_modules.specs.StandardModules.{matrix_of_arrow}
use Rattle.standard_modules.proofs.simples.simple_module.Given as goal

abbrev pub invariant-loop-arrow : goal.invariant-loop-arrow
invariant-loop-arrow l = l.matrices.items ≡ list_of l.arrow (matrix_of_arrow (simple l.table.header.field (algebra_at l.side l.table.header).quiver l.v))
