use Rattle.std.proofs.Common.{◌≡◌, arith, ap, ◌∙◌}
use Rattle.quiver_paths.specs.Quiver.{vertex_count}
use Rattle.linear_algebra.proofs.Rows.{list_of-is}
use Rattle.report_types.specs.Numbers.{module_of}
use Rattle.report_types.specs.WordDimensions.{dim_of}
use Rattle.claim_blocks.specs.Setting.{Setting}
use Rattle.claim_blocks.proofs.term_block.module_dims.Goals as goal

pub returns : goal.returns
returns c =
    let i = c.loop-vertex.invariant in
    let s = c.args.context.now in
    let stop : c.loop-vertex.vertex ≡ vertex_count s.header.quiver = (let e = ap (λ (x : Setting). vertex_count x.header.quiver) c.context.view_is in let l = c.loop-vertex-test.false in let k = c.loop-vertex.auto.vertex-end in let n = c.len-vertex-end.ensures in omega (arith, e, l, k, n)) in
    list_of-is (vertex_count s.header.quiver) (dim_of s.header (module_of s.records c.args.n)) c.loop-vertex.dims 0 (i.0 ∙ stop) (λ k l. i.1 k (omega (arith, l, stop)))
