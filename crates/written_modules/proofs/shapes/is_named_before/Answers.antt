use Rattle.std.proofs.Common.{sym, arith}
use Rattle.written_modules.proofs.Fitting.{other_more}
use Rattle.written_modules.proofs.shapes.is_named_before.Goals as goal

pub loop-i-preserved : goal.loop-i-preserved
loop-i-preserved c = other_more c.args.lines.now c.args.name.now c.loop-i.i c.index.result.now (omega (arith, c.loop-i-test.true, c.requires)) c.index.ensures (sym c.if-eq.ensures) c.loop-i.invariant
