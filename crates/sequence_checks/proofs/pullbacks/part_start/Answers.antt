use Rattle.std.proofs.Common.{◌<◌, length, ◌∙◌, arith}
use Rattle.std.proofs.lemmas.Grind.{get_or_default_zero}
use Rattle.projectives.specs.CanonicalCover.{vertex_in}
use Rattle.sequence_checks.proofs.PartRows.{start-more}
use Rattle.sequence_checks.proofs.pullbacks.part_start.Goals as goal

pub loop-c-preserved : goal.loop-c-preserved
loop-c-preserved c =
    let dims = c.args.m.now.dims in
    let vs = c.args.vertices.now in
    let k = c.loop-c.c in
    let l : k < length vs = omega (arith, c.loop-c-test.true, c.requires.part) in
    let v = c.index.ensures ∙ get_or_default_zero vs k c.index.result.now l in
    let d = c.requires.vertices k l in
    let u = start-more dims (vertex_in vs) k c.index-in-loop-c.result.now c.index.result.now v d c.index-in-loop-c.ensures in
    let s = c.requires.dims (vertex_in vs k) in
    record { start = u.1 c.loop-c.start c.loop-c.invariant.start; small = omega (arith, u.0, s, c.loop-c.invariant.small) }
