use Rattle.std.proofs.Common.{arith}
use Rattle.hom_space.proofs.HomCounts.{products_small}
use Rattle.hom_space.proofs.counting.products_summed.Goals as goal

pub overflow_add-count : goal.overflow_add-count
overflow_add-count c =
    let few = products_small c.args.a.now c.args.b.now c.requires.a_small c.requires.b_small c.loop-v.v c.loop-v-test.true in omega (arith, c.loop-v.invariant.count)
