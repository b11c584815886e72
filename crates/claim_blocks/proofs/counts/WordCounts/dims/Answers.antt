use Rattle.std.proofs.Common.{◌≡◌, ap, ◌∙◌, arith}
use Rattle.linear_algebra.specs.BlockFamilies.{total}
use Rattle.linear_algebra.proofs.Rows.{list_of-is}
use Rattle.claim_blocks.specs.Counts.{WordTable, table_dim}
use Rattle.claim_blocks.proofs.WordTables.{none_left}
use Rattle.claim_blocks.proofs.counts.WordCounts.dims.Goals as goal

pub returns-in_default : goal.returns-in_default
returns-in_default c =
    let t = c.args.self.now in
    let f = table_dim t c.args.vertices.now in
    let i = c.loop-vertex.invariant.0 in
    let past = c.in_default.ensures in
    none_left c.loop-vertex.vertex t.size 512 c.loop-vertex.left f (let l = c.loop-vertex-test.true in let s = ap (λ (x : WordTable). x.size) c.self.view_is in omega (arith, l, s)) i past

pub returns : goal.returns
returns c =
    let t = c.args.self.now in
    let i = c.loop-vertex.invariant in
    let stop : c.loop-vertex.vertex ≡ t.size = (let s = ap (λ (x : WordTable). x.size) c.self.view_is in let l = c.loop-vertex-test.false in let k = c.loop-vertex.auto.vertex-end in omega (arith, s, l, k)) in (
      (let e = i.0 in let s = ap (λ k. total k (table_dim t c.args.vertices.now)) stop in omega (arith, e, s)),
      list_of-is t.size (table_dim t c.args.vertices.now) c.loop-vertex.dims 0 (i.1 ∙ stop) (λ k l. i.2 k (omega (arith, l, stop))),
    )
