use Rattle.std.proofs.Common.{◌<◌, sym, arith, subst}
use Rattle.std.specs.Prelude.{slice_index}
use Rattle.quiver_paths.specs.Quiver.{arrow_count}
use Rattle.module_types.specs.Algebras.{algebra_at}
use Rattle.module_types.specs.Readings.{rep_of}
use Rattle.module_checks.proofs.Sides.{arrows_at, source_inside, target_inside, plain_at}
use Rattle.module_checks.proofs.Walks.{dim_within}
use Rattle.map_checks.proofs.BlockParts.{block_fits, block_there, there_block, blocks_more}
use Rattle.map_checks.proofs.sums.has_blocks.Goals as goal

pub bounds-starts-source_at : goal.bounds-starts-source_at
bounds-starts-source_at c =
    let k = source_inside c.args.side c.args.header.now c.requires.allowed.quiver.ends c.loop-a.a (omega (arith, c.len-a-end.ensures)) in omega (arith, k, c.requires.s.counted, c.source_at.ensures, c.requires.starts)

pub bounds-starts-target_at : goal.bounds-starts-target_at
bounds-starts-target_at c =
    let k = target_inside c.args.side c.args.header.now c.requires.allowed.quiver.ends c.loop-a.a (omega (arith, c.len-a-end.ensures)) in omega (arith, k, c.requires.s.counted, c.target_at.ensures, c.requires.starts)

pub is_block-requires-clause-inside : goal.is_block-requires-clause-inside
is_block-requires-clause-inside c =
    let h = c.args.header.now in
    let Q = (algebra_at c.args.side h).quiver in
    let a = c.loop-a.a in
    let l : a < arrow_count h.quiver = omega (arith, c.len-a-end.ensures) in
    let l' : a < Q.arrows = subst (λ n. a < n) (sym (arrows_at c.args.side h)) l in
    let f = plain_at h.field Q c.args.s.now c.requires.s a c.index.result.now l' c.index.ensures in
    let g = plain_at h.field Q c.args.part.now c.requires.part a c.index-in-loop-a.result.now l' c.index-in-loop-a.ensures in
    block_fits h.field Q c.args.s.now c.args.part.now c.args.starts.now c.requires.s.counted (Q.source a) c.source_at.result c.index.result.now.row_count c.index-in-loop-a.result.now.row_count c.source_at.ensures
    (source_inside c.args.side h c.requires.allowed.quiver.ends a l) c.requires.room f.row_count g.row_count

pub is_block-requires-clause-small : goal.is_block-requires-clause-small
is_block-requires-clause-small c =
    let h = c.args.header.now in
    let Q = (algebra_at c.args.side h).quiver in
    let a = c.loop-a.a in
    let l : a < arrow_count h.quiver = omega (arith, c.len-a-end.ensures) in
    let l' : a < Q.arrows = subst (λ n. a < n) (sym (arrows_at c.args.side h)) l in
    let f = plain_at h.field Q c.args.s.now c.requires.s a c.index.result.now l' c.index.ensures in
    let d = dim_within Q c.args.s.now.dims (Q.source a) in
    omega (arith, f.row_count, d, c.requires.s.small)

pub returns-then-not-is_block : goal.returns-then-not-is_block
returns-then-not-is_block c blocks =
    let h = c.args.header.now in
    let Q = (algebra_at c.args.side h).quiver in
    let a = c.loop-a.a in
    let l : a < arrow_count h.quiver = omega (arith, c.len-a-end.ensures) in
    let l' : a < Q.arrows = subst (λ n. a < n) (sym (arrows_at c.args.side h)) l in
    let f = plain_at h.field Q c.args.s.now c.requires.s a c.index.result.now l' c.index.ensures in
    let g = plain_at h.field Q c.args.part.now c.requires.part a c.index-in-loop-a.result.now l' c.index-in-loop-a.ensures in
    c.if-not-is_block.ensures (there_block h.field Q c.args.s.now c.args.part.now c.args.starts.now c.requires.s.counted a c.source_at.result c.target_at.result c.index.result.now c.index-in-loop-a.result.now f g c.source_at.ensures c.target_at.ensures
    (blocks.each a l'))

pub loop-a-preserved : goal.loop-a-preserved
loop-a-preserved c =
    let h = c.args.header.now in
    let Q = (algebra_at c.args.side h).quiver in
    let a = c.loop-a.a in
    let l : a < arrow_count h.quiver = omega (arith, c.len-a-end.ensures) in
    let l' : a < Q.arrows = subst (λ n. a < n) (sym (arrows_at c.args.side h)) l in
    let f = plain_at h.field Q c.args.s.now c.requires.s a c.index.result.now l' c.index.ensures in
    let g = plain_at h.field Q c.args.part.now c.requires.part a c.index-in-loop-a.result.now l' c.index-in-loop-a.ensures in
    blocks_more (rep_of h.field Q c.args.s.now) (rep_of h.field Q c.args.part.now) (slice_index c.args.starts.now) a c.loop-a.invariant
    (block_there h.field Q c.args.s.now c.args.part.now c.args.starts.now c.requires.s.counted a c.source_at.result c.target_at.result c.index.result.now c.index-in-loop-a.result.now f g c.source_at.ensures c.target_at.ensures c.if-not-is_block.ensures)
