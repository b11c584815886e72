use Rattle.std.proofs.Common.{arith}
use Rattle.path_algebra.specs.declared.rules.Rule.{Rule}
use Rattle.path_algebra.proofs.TipFactors.{ascend_from_steps, next_is_greater}
use Rattle.alg_table.proofs.reduced.tips_ascend.Goals as goal

pub returns : goal.returns
returns c = ascend_from_steps (λ (r : Rule). r.tip) c.args.rules.now (λ j d l. c.loop-next.invariant j d (omega arith))

pub returns-then-not-is_smaller : goal.returns-then-not-is_smaller
returns-then-not-is_smaller c a = c.if-not-is_smaller.ensures
    (next_is_greater (λ (r : Rule). r.tip) c.args.rules.now c.loop-next.next c.index-rules-next.result c.index-rules-next-in-loop-next.result a (omega arith) c.loop-next-test.true)
