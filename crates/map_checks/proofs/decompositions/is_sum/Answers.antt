use Rattle.std.proofs.Common.{◌≡◌, ◌<◌, subst, arith}
use Rattle.std.specs.Prelude.{length}
use Rattle.module_types.specs.Algebras.{algebra_at}
use Rattle.module_types.specs.Readings.{rep_of}
use Rattle.module_types.specs.Written.{part_at}
use Rattle.map_checks.specs.BlockParts.{HasParts, HoldsStarts}
use Rattle.module_checks.proofs.Tests.{test_means}
use Rattle.map_checks.proofs.BlockParts.{sum_of_blocks, blocks_of_sum, full_of_sum}
use Rattle.map_checks.proofs.PartTests.{shape_of, parts_more, part_not, starts_more, full_there, there_full, places_small}
use Rattle.map_checks.proofs.decompositions.is_sum.Goals as goal

pub returns-then-not-has_part : goal.returns-then-not-has_part
returns-then-not-has_part g c e =
    let h = c.args.header.now in
    let Q = (algebra_at c.args.side h).quiver in
    let xs = g.P.Parts.modules c.args.parts.now in
    let l : c.loop-i.i < length xs = omega (arith, c.loop-i-test.true, c.count-i-end.ensures) in
    c.if-not-has_part.ensures (part_not h.field Q c.args.side c.args.s.now xs (length xs) c.loop-i.i c.part-part.result.now c.loop-i.starts l l c.part-part.ensures c.loop-i.invariant.starts
    (blocks_of_sum (part_at h.field Q c.args.side xs) (rep_of h.field Q c.args.s.now) (length xs) e))

pub pass_part-requires-clause-small : goal.pass_part-requires-clause-small
pass_part-requires-clause-small g c =
    let h = c.args.header.now in
    let Q = (algebra_at c.args.side h).quiver in
    let xs = g.P.Parts.modules c.args.parts.now in
    let l : c.loop-i.i < length xs = omega (arith, c.loop-i-test.true, c.count-i-end.ensures) in
    let m = shape_of h c.args.side xs (length xs) c.loop-i.i c.part-part.result.now c.requires.parts c.requires.sides l l c.part-part.ensures in
    places_small h.field Q c.args.s.now c.part-part.result.now c.loop-i.starts c.requires.s.counted m.counted c.requires.s.small c.if-not-has_part.ensures

pub loop-i-preserved : goal.loop-i-preserved
loop-i-preserved g c =
    let h = c.args.header.now in
    let Q = (algebra_at c.args.side h).quiver in
    let xs = g.P.Parts.modules c.args.parts.now in
    let l : c.loop-i.i < length xs = omega (arith, c.loop-i-test.true, c.count-i-end.ensures) in
    let m = shape_of h c.args.side xs (length xs) c.loop-i.i c.part-part.result.now c.requires.parts c.requires.sides l l c.part-part.ensures in
    record {
      parts = parts_more h.field Q c.args.side c.args.s.now xs c.loop-i.i c.part-part.result.now c.loop-i.starts l c.part-part.ensures c.loop-i.invariant.parts c.loop-i.invariant.starts c.if-not-has_part.ensures;
      starts = starts_more h.field Q c.args.side c.args.s.now xs c.loop-i.i c.part-part.result.now c.loop-i.starts c.pass_part.new.starts l c.part-part.ensures m.counted c.loop-i.invariant.starts c.pass_part.ensures;
    }

pub returns : goal.returns
returns g c =
    let h = c.args.header.now in
    let Q = (algebra_at c.args.side h).quiver in
    let xs = g.P.Parts.modules c.args.parts.now in
    let P = part_at h.field Q c.args.side xs in
    let S = rep_of h.field Q c.args.s.now in
    let all : c.loop-i.i ≡ length xs = omega (arith, c.loop-i-test.false, c.loop-i.auto.i-end, c.count-i-end.ensures) in
    let parts = subst (HasParts S P) all c.loop-i.invariant.parts in
    let starts = subst (λ k. HoldsStarts P k Q.vertices c.loop-i.starts) all c.loop-i.invariant.starts in
    test_means c.are_ends.result
    (λ e. sum_of_blocks P S (length xs) parts (full_there h.field Q c.args.side c.args.s.now xs (length xs) c.loop-i.starts c.requires.s.counted starts e))
    (λ e. there_full h.field Q c.args.side c.args.s.now xs (length xs) c.loop-i.starts c.requires.s.counted starts (full_of_sum P S (length xs) e)) c.are_ends.ensures
