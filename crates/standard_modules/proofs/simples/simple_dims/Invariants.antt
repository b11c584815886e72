use Rattle.std.proofs.Common.{◌≡◌}
use Rattle.linear_algebra.specs.Rows.{list_of}
use Rattle.module_types.specs.Algebras.{algebra_at}
use Rattle.module_types.specs.SimpleModules.{dim_of_simple}
use Rattle.standard_modules.proofs.simples.simple_dims.Given as goal

abbrev pub invariant-loop-w : goal.invariant-loop-w
invariant-loop-w l = l.dims.items ≡ list_of l.w (dim_of_simple (algebra_at l.side l.header).quiver l.v)
