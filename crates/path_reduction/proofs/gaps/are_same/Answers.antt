use Rattle.std.proofs.Common.{◌≡◌, arith, get_or, length, ◌<◌}
use Rattle.std.proofs.lemmas.List.{take_more_same}
use Rattle.path_algebra.specs.declared.Term.{Term}
use Rattle.path_reduction.proofs.Closing.{same_from_ne, same_terms_at}
use Rattle.path_reduction.proofs.gaps.are_same.Goals as goal

pub loop-i-preserved : goal.loop-i-preserved
loop-i-preserved c =
    let x : Term = c.index-a-i-else-a-i.result in
    let y : Term = c.index-b-i-else-a-i.result in
    let d : Term = c.index-a-i.result in
    let lengths : length c.args.a.now ≡ length c.args.b.now = c.if-a-b.false in
    let inside : c.loop-i.i < length c.args.b.now = (let l = c.loop-i-test.true in omega (arith, l, lengths)) in
    let paths : (get_or c.args.a.now c.loop-i.i x).path ≡ (get_or c.args.b.now c.loop-i.i y).path = same_from_ne _ _ c.ne.result c.ne.ensures c.if-ne.false in
    take_more_same c.args.a.now c.args.b.now c.loop-i.i d c.loop-i-test.true inside c.loop-i.invariant
    (same_terms_at c.args.a.now c.args.b.now c.loop-i.i c.index-a-i.result c.index-b-i.result x y d c.loop-i-test.true inside c.if-a-i.false paths)
