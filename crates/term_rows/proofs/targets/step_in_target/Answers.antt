use Rattle.std.proofs.Common.{◌≡◌, ◌<◌, suc, ◌-◌, length, arith}
use Rattle.term_rows.proofs.TargetSteps.{room_at_later, vertices_of_term, step_at_later}
use Rattle.term_rows.proofs.targets.step_in_target.Goals as goal

pub step_in_sum-requires-clause-row_room : goal.step_in_sum-requires-clause-row_room
step_in_sum-requires-clause-row_room c =
    room_at_later c.args.table.now.words c.args.table.now.header c.args.a.now c.args.terms.now c.args.k (c.args.k - 1) _ c.index.result.now (omega (arith, c.if-k-eq0.false)) (omega (arith, c.if-k-eq0.false, c.requires.terms.counted)) c.index.ensures c.requires.row_room

pub step_in_sum-requires-clause-room : goal.step_in_sum-requires-clause-room
step_in_sum-requires-clause-room c =
    room_at_later c.args.table.now.words c.args.table.now.header c.args.a.now c.args.terms.now c.args.k (c.args.k - 1) _ c.index.result.now (omega (arith, c.if-k-eq0.false)) (omega (arith, c.if-k-eq0.false, c.requires.terms.counted)) c.index.ensures c.requires.room
