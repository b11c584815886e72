use Rattle.std.proofs.Common.{arith}
use Rattle.written_modules.proofs.Fitting.{differ_more, lines_agree, lines_differ}
use Rattle.written_modules.proofs.shapes.are_different.Goals as goal

pub returns-then-is_named_before : goal.returns-then-is_named_before
returns-then-is_named_before c = lines_agree c.args.lines.now c.loop-j.j c.index.result.now (omega (arith, c.loop-j-test.true, c.len-j-end.ensures)) c.index.ensures c.if-is_named_before.ensures

pub loop-j-preserved : goal.loop-j-preserved
loop-j-preserved c = differ_more c.args.lines.now c.loop-j.j c.index.result.now (omega (arith, c.loop-j-test.true, c.len-j-end.ensures)) c.index.ensures c.if-is_named_before.ensures c.loop-j.invariant

pub returns : goal.returns
returns c = lines_differ c.args.lines.now c.loop-j.j (omega (arith, c.loop-j-test.false, c.len-j-end.ensures)) c.loop-j.invariant
