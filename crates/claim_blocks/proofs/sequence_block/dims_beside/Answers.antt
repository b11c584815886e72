use Rattle.std.proofs.Common.{◌≡◌, ◌+◌, arith, ap, ◌∙◌}
use Rattle.std.specs.Prelude.{slice_index}
use Rattle.quiver_paths.specs.Quiver.{vertex_count}
use Rattle.linear_algebra.proofs.Rows.{list_of-is}
use Rattle.report_types.specs.Numbers.{module_of}
use Rattle.report_types.specs.WordDimensions.{dim_of}
use Rattle.claim_blocks.specs.Setting.{Setting}
use Rattle.claim_blocks.proofs.sequence_block.dims_beside.Goals as goal

pub returns : goal.returns
returns c =
    let i = c.loop-vertex.invariant in
    let s = c.args.context.now in
    let stop : c.loop-vertex.vertex ≡ vertex_count s.header.quiver = (let e = ap (λ (x : Setting). vertex_count x.header.quiver) c.context.view_is in let l = c.loop-vertex-test.false in let k = c.loop-vertex.auto.vertex-end in let n = c.len-vertex-end.ensures in omega (arith, e, l, k, n)) in (
      λ w l. i.2 w (omega (arith, l, stop)),
      list_of-is (vertex_count s.header.quiver) (λ w. slice_index c.args.dims.now w + dim_of s.header (module_of s.records c.args.n) w) c.loop-vertex.sums 0 (i.0 ∙ stop) (λ k l. i.1 k (omega (arith, l, stop))),
    )
