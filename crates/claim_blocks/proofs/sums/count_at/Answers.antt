use Rattle.std.proofs.Common.{length}
use Rattle.claim_blocks.specs.Sums.{dims_at}
use Rattle.claim_blocks.proofs.SumReading.{sum_large}
use Rattle.claim_blocks.proofs.sums.count_at.Goals as goal

pub returns-in_default : goal.returns-in_default
returns-in_default c =
    sum_large 1024 (dims_at c.args.header.now c.args.dims.now c.args.vertices.now) (length c.args.vertices.now) c.loop-j.j c.loop-j.sum c.dim_at-more.result c.loop-j-test.true c.loop-j.invariant.same c.dim_at-more.ensures c.in_default.ensures
