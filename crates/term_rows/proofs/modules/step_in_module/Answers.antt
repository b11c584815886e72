use Rattle.std.proofs.Common.{◌<◌, sym, subst, arith}
use Rattle.module_types.specs.Algebras.{algebra_at}
use Rattle.module_types.specs.Readings.{read}
use Rattle.module_checks.proofs.Sides.{arrows_at, plain_at}
use Rattle.term_rows.proofs.ModuleSteps.{step_of_times, room_of_side}
use Rattle.term_rows.proofs.modules.step_in_module.Goals as goal

pub row_times-requires-clause-room : goal.row_times-requires-clause-room
row_times-requires-clause-room c =
    let h = c.args.header.now in
    let m = c.args.m.now in
    let Q = (algebra_at m.side h).quiver in
    let p = plain_at h.field Q m c.requires.m c.args.arrow c.index.result.now (subst (λ n. c.args.arrow < n) (sym (arrows_at m.side h)) c.requires.arrow) c.index.ensures in
    let d = room_of_side m.side h m.dims _ c.requires.row_room (Q.source c.args.arrow) in
    omega (arith, p.row_count, d)

pub row_times-requires-clause-next_room : goal.row_times-requires-clause-next_room
row_times-requires-clause-next_room c =
    let h = c.args.header.now in
    let m = c.args.m.now in
    let Q = (algebra_at m.side h).quiver in
    let p = plain_at h.field Q m c.requires.m c.args.arrow c.index.result.now (subst (λ n. c.args.arrow < n) (sym (arrows_at m.side h)) c.requires.arrow) c.index.ensures in
    let d = room_of_side m.side h m.dims _ c.requires.room (Q.target c.args.arrow) in
    omega (arith, p.col_count, d)

pub returns-clause-step : goal.returns-clause-step
returns-clause-step c =
    let h = c.args.header.now in
    let m = c.args.m.now in
    let Q = (algebra_at m.side h).quiver in
    let p = plain_at h.field Q m c.requires.m c.args.arrow c.index.result.now (subst (λ n. c.args.arrow < n) (sym (arrows_at m.side h)) c.requires.arrow) c.index.ensures in
    step_of_times (read h m) c.args.arrow c.index.result.now c.args.row.now c.row_times.new.next p c.row_times.ensures.times
