use Rattle.std.proofs.Common.{◌≡◌, length, arith, ap, ◌∙◌}
use Rattle.std.specs.Prelude.{slice_index}
use Rattle.linear_algebra.proofs.Rows.{list_of-is}
use Rattle.report_types.specs.ClaimBlocks.{vertices_of}
use Rattle.report_types.specs.Numbers.{module_of}
use Rattle.report_types.specs.WordDimensions.{dim_of}
use Rattle.claim_blocks.proofs.sequence_block.generator_dims.Goals as goal

pub returns : goal.returns
returns c =
    let i = c.loop-j.invariant in
    let s = c.args.context.now in
    let vs = vertices_of s.header s.records c.args.resolution 0 in
    let stop : c.loop-j.j ≡ length vs = (let e = ap length c.vertices-vertices.ensures in let l = c.loop-j-test.false in let k = c.loop-j.auto.j-end in omega (arith, e, l, k)) in
    list_of-is (length vs) (λ j. dim_of s.header (module_of s.records c.args.n) (slice_index vs j)) c.loop-j.counts 0 (i.0 ∙ stop) (λ k l. i.1 k (omega (arith, l, stop)))
