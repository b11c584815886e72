use Rattle.std.proofs.Common.{arith}
use Rattle.module_checks.proofs.VertexMatrices.{unit_products_more}
use Rattle.module_checks.proofs.zero_products.are_unit_products.Goals as goal

pub loop-v-preserved : goal.loop-v-preserved
loop-v-preserved c = unit_products_more c.args.field c.args.first.now c.args.second.now c.loop-v.v c.index.result.now c.index-in-loop-v.result.now (omega (arith, c.loop-v-test.true, c.len-v-end.ensures))
    (omega (arith, c.loop-v-test.true, c.len-v-end.ensures, c.requires.fit.counted)) c.index.ensures c.index-in-loop-v.ensures c.loop-v.invariant c.if-not-is_unit_product.ensures
