use Rattle.std.proofs.Common.{◌<◌, length, sym, arith}
use Rattle.written_modules.proofs.Fitting.{line_found, found_none}
use Rattle.written_modules.proofs.building.line_at.Goals as goal

pub returns-then-eq : goal.returns-then-eq
returns-then-eq c =
    let l : c.loop-j.j < length c.args.lines.now = omega (arith, c.loop-j-test.true, c.len-j-end.ensures) in
    (l, line_found c.args.name.now c.args.lines.now c.loop-j.j c.index.result.now l c.index.ensures (sym c.if-eq.ensures) c.loop-j.invariant)

pub returns : goal.returns
returns c = found_none c.args.name.now c.args.lines.now c.loop-j.j (omega (arith, c.loop-j-test.false, c.len-j-end.ensures)) c.loop-j.invariant
