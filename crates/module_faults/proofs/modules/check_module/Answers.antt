use Rattle.std.proofs.Common.{arith}
use Rattle.module_faults.proofs.SmallModules.{where_none, small_module}
use Rattle.module_faults.proofs.modules.check_module.Goals as goal

pub returns : goal.returns
returns c = small_module c.args.header.now c.requires c.args.m.now c.if-not-has_module_shape.ensures (omega (arith, c.if-dim-gt-MOST_DIMENSION.false, c.dimension-dim.ensures))
    (where_none _ _ c.in_ok-relation.field-0 c.in_default.is c.in_ok-relation.ensures) (where_none _ _ c.in_ok-path.field-0 c.in_default-2.is c.in_ok-path.ensures)
