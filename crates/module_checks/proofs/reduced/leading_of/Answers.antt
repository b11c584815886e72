use Rattle.std.proofs.Common.{sym, arith}
use Rattle.linear_algebra.proofs.Reduced.{leading_all_zero, leading_is}
use Rattle.module_checks.proofs.reduced.leading_of.Goals as goal

pub returns-then-row-p-ne0 : goal.returns-then-row-p-ne0
returns-then-row-p-ne0 c = sym (leading_is c.args.row.now c.loop-p.p c.loop-p-test.true c.loop-p.invariant c.if-row-p-ne0.true)

pub returns : goal.returns
returns c = leading_all_zero c.args.row.now (λ j l. c.loop-p.invariant j (omega arith))
