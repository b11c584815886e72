use Rattle.std.proofs.Common.{◌≡◌, length, slice_index, ap, arith}
use Rattle.module_types.specs.Shapes.{dimension}
use Rattle.rep_arena.specs.Entries.{module_at}
use Rattle.mod_ops.proofs.Added.{total_step}
use Rattle.mod_ops.proofs.modules.dimension_of.Goals as goal

pub overflow_add-sum : goal.overflow_add-sum
overflow_add-sum c =
    let dims = c.dims-dims.result.now in
    let whole : dimension dims ≡ dimension (module_at c.args.arena.now c.args.a.number).dims = ap dimension c.dims-dims.ensures.dims in
    let front = total_step (slice_index dims) c.loop-v.v (length dims) c.loop-v-test.true in
    omega (arith, whole, front, c.loop-v.invariant, c.dims-dims.ensures.lawful.shape.small)
