use Rattle.std.proofs.Common.{◌≡◌, ◌<◌, ◌∙◌, length, ap, arith}
use Rattle.quiver_paths.specs.Quiver.{vertex_count}
use Rattle.linear_algebra.specs.BlockFamilies.{total}
use Rattle.path_algebra.specs.declared.Header.{Header}
use Rattle.term_rows.specs.SumDims.{count_to}
use Rattle.standard_modules.proofs.Counted.{counted, sum_few, dim_few}
use Rattle.standard_modules.proofs.Lists.{total-more}
use Rattle.standard_modules.proofs.dimensions.projective_dim.Goals as goal

pub overflow_add-dim : goal.overflow_add-dim
overflow_add-dim c =
    let h = c.args.table.now.header in
    let ws = c.args.table.now.words in
    let side = c.args.side in
    let T = c.header.ensures.table in
    let same : vertex_count c.header.result.now.quiver ≡ vertex_count h.quiver = ap (λ (h : Header). vertex_count h.quiver) c.header.ensures.header in
    let l : c.loop-w.w < vertex_count h.quiver = omega (arith, c.loop-w-test.true, c.len-w-end.ensures, same) in
    let n = counted h ws T side c.args.v c.loop-w.w c.side_in_table-hand.result c.words_at.result.now c.side_in_table-hand.ensures c.words_at.ensures in
    let b = sum_few h ws T side c.args.v c.loop-w.w c.loop-w.dim (length c.words_at.result.now) l c.loop-w.invariant n in
    omega (arith, b)

pub loop-w-preserved : goal.loop-w-preserved
loop-w-preserved c =
    let h = c.args.table.now.header in
    let ws = c.args.table.now.words in
    let side = c.args.side in
    let T = c.header.ensures.table in
    let n = counted h ws T side c.args.v c.loop-w.w c.side_in_table-hand.result c.words_at.result.now c.side_in_table-hand.ensures c.words_at.ensures in
    total-more c.loop-w.w (count_to ws side c.args.v) c.loop-w.dim (length c.words_at.result.now) c.loop-w.invariant n

pub returns-clause-few : goal.returns-clause-few
returns-clause-few c =
    let h = c.args.table.now.header in
    let ws = c.args.table.now.words in
    let few = dim_few h ws c.header.ensures.table c.args.side c.args.v in
    let same : vertex_count c.header.result.now.quiver ≡ vertex_count h.quiver = ap (λ (h : Header). vertex_count h.quiver) c.header.ensures.header in
    let e : c.loop-w.w ≡ vertex_count h.quiver = omega (arith, c.loop-w-test.false, c.loop-w.auto.w-end, c.len-w-end.ensures, same) in
    let d : c.loop-w.dim ≡ total (vertex_count h.quiver) (count_to ws c.args.side c.args.v) = c.loop-w.invariant ∙ ap (λ k. total k (count_to ws c.args.side c.args.v)) e in
    omega (arith, few, d)
