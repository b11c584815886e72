use Rattle.std.proofs.Common.{◌≡◌, arith}
use Rattle.module_checks.proofs.VertexMatrices.{places-none, places-more, places_fail, places_all}
use Rattle.module_checks.proofs.column_reduced.is_column_reduced.Goals as goal

pub loop-k-init : goal.loop-k-init
loop-k-init c = let m = c.args.matrix.now in places-none m.row_count m.col_count m.rows

pub returns-in-None : goal.returns-in-None
returns-in-None c = places_fail c.args.matrix.now c.loop-k.k c.loop-k.least (omega (arith, c.loop-k-test.true, c.cols-k-end.ensures.count)) c.loop-k.invariant c.in-None.ensures

pub loop-k-preserved : goal.loop-k-preserved
loop-k-preserved c = let m = c.args.matrix.now in places-more m.row_count m.col_count m.rows c.loop-k.k c.loop-k.least c.in-Some.p c.loop-k.invariant c.in-Some.ensures.0 c.in-Some.ensures.1

pub returns : goal.returns
returns c =
    let e : c.loop-k.k ≡ c.args.matrix.now.col_count = omega (arith, c.loop-k-test.false, c.loop-k.auto.k-end, c.cols-k-end.ensures.count) in
    places_all c.args.matrix.now c.loop-k.k c.loop-k.least e c.loop-k.invariant
