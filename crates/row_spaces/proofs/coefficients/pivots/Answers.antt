use Rattle.std.proofs.Common.{◌≡◌, length, arith}
use Rattle.row_spaces.proofs.PivotEntries.{HasLeading-more, HasLeading-all}
use Rattle.row_spaces.proofs.coefficients.pivots.Goals as goal

pub loop-i-preserved : goal.loop-i-preserved
loop-i-preserved c = rw c.in_ok-push.ensures.items (HasLeading-more c.args.matrix.now.rows c.loop-i.i c.first_nonzero.result c.loop-i.pivots.items c.first_nonzero.ensures c.loop-i.invariant)

pub returns : goal.returns
returns c =
    let end : c.loop-i.i ≡ length c.args.matrix.now.rows = omega (arith, c.loop-i-test.false, c.loop-i.auto.i-end, c.rows.ensures.matrix.grid.count) in
    HasLeading-all c.args.matrix.now.rows c.loop-i.pivots.items (rw end at c.loop-i.invariant)
