use Rattle.std.proofs.Common.{Some, sym, ap, ◌∙◌, arith}
use Rattle.written_modules.proofs.Among.{among_refused, among_more}
use Rattle.written_modules.proofs.names.names_among.Goals as goal

pub returns-then-not-is_among : goal.returns-then-not-is_among
returns-then-not-is_among c = among_refused c.args.known.now c.args.lines.now c.loop-j.j c.index.result.now (omega (arith, c.loop-j-test.true, c.len-j-end.ensures)) c.index.ensures c.loop-j.invariant c.if-not-is_among.ensures ∙ ap Some (sym c.in_ok-why.ensures)

pub loop-j-preserved : goal.loop-j-preserved
loop-j-preserved c = among_more c.args.known.now c.args.lines.now c.loop-j.j c.index.result.now (omega (arith, c.loop-j-test.true, c.len-j-end.ensures)) c.index.ensures c.loop-j.invariant c.if-not-is_among.ensures
