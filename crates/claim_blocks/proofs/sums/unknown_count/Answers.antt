use Rattle.std.proofs.Common.{◌*◌, ◌<◌, subst}
use Rattle.quiver_paths.specs.Quiver.{vertex_count}
use Rattle.claim_blocks.specs.Sums.{dim_products}
use Rattle.claim_blocks.proofs.SumReading.{sum_large}
use Rattle.claim_blocks.proofs.sums.unknown_count.Goals as goal

pub returns-in_default : goal.returns-in_default
returns-in_default c =
    let h = c.args.header.now in
    sum_large 1024 (dim_products h c.args.x.now c.args.y.now) (vertex_count h.quiver) c.loop-v.v c.loop-v.sum (c.dim_at.result * c.dim_at-in-loop-v.result) (subst (λ n. c.loop-v.v < n) c.len-v-end.ensures c.loop-v-test.true) c.loop-v.invariant.same
    (λ i. c.dim_at.ensures i * c.dim_at-in-loop-v.ensures i) c.in_default.ensures
