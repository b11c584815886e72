use Rattle.std.proofs.Common.{arith}
use Rattle.standard_modules.specs.StandardModules.{projective_dim_at}
use Rattle.standard_modules.proofs.Lists.{total-more}
use Rattle.standard_modules.proofs.dimensions.projectives_dim.Goals as goal

pub overflow_add-dim : goal.overflow_add-dim
overflow_add-dim c = omega (arith, c.loop-j.invariant.few, c.projective_dim-dim.ensures.few, c.loop-j-test.true, c.requires.few)

pub loop-j-preserved : goal.loop-j-preserved
loop-j-preserved c = record {
  sum = total-more c.loop-j.j (projective_dim_at c.args.table.now.header c.args.table.now.words c.args.side c.args.vertices.now) c.loop-j.dim c.projective_dim-dim.result c.loop-j.invariant.sum c.projective_dim-dim.ensures.dim;
  few = omega (arith, c.loop-j.invariant.few, c.projective_dim-dim.ensures.few);
}
