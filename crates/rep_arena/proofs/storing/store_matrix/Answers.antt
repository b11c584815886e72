use Rattle.std.proofs.Common.{◌<◌, arith}
use Rattle.rep_arena.proofs.Rows.{holds_none, holds_more}
use Rattle.rep_arena.proofs.storing.store_matrix.Goals as goal

pub loop-i-init : goal.loop-i-init
loop-i-init c = holds_none c.args.matrix.now c.in_ok-entries.entries.items c.in_ok-entries.ensures.items

pub loop-i-preserved : goal.loop-i-preserved
loop-i-preserved c =
    let M = c.args.matrix.now in
    let inside : c.loop-i.i < M.row_count = omega (arith, c.loop-i-test.true, c.rows-rows.ensures.count) in
    holds_more M c.loop-i.i c.loop-i.entries.items c.row.result.now c.extend_from_slice.new.self.items c.rows-rows.ensures.matrix inside c.row.ensures.row c.in_ok-extend_from_slice.ensures.items c.loop-i.invariant
