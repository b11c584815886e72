use Rattle.std.proofs.Common.{length, arith}
use Rattle.claim_blocks.specs.Counts.{entry_for}
use Rattle.claim_blocks.proofs.WordTables.{more_than}
use Rattle.claim_blocks.proofs.counts.WordCounts.dim_at.Goals as goal

pub returns-then-more-most : goal.returns-then-more-most
returns-then-more-most c =
    let i = c.loop-j.invariant in
    more_than c.loop-j.j (length c.args.vertices.now) c.args.most c.loop-j.sum c.entry-more.result (entry_for c.args.self.now c.args.vertices.now c.args.vertex) (omega arith) i.0 c.entry-more.ensures
    (let l = i.1 in let k = c.if-more-most.true in omega (arith, l, k))
