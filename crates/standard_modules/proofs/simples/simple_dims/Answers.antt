use Rattle.std.proofs.Common.{◌∙◌}
use Rattle.module_types.specs.Algebras.{algebra_at}
use Rattle.module_types.specs.SimpleModules.{dim_of_simple}
use Rattle.standard_modules.proofs.Lists.{list_of-none, list_of-pushed}
use Rattle.standard_modules.proofs.simples.simple_dims.Goals as goal

pub loop-w-init : goal.loop-w-init
loop-w-init c = c.new-dims.ensures.items ∙ list_of-none (dim_of_simple (algebra_at c.args.side c.args.header.now).quiver c.args.v)

pub loop-w-preserved : goal.loop-w-preserved
loop-w-preserved c =
    c.in_ok-push.ensures.items ∙ list_of-pushed c.loop-w.w (dim_of_simple (algebra_at c.args.side c.args.header.now).quiver c.args.v) c.loop-w.dims.items c.simple_dim.result c.loop-w.invariant c.simple_dim.ensures.dim
