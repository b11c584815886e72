use Rattle.std.proofs.Common.{◌≡◌, arith, subst}
use Rattle.cover_checks.specs.Choosing.{AreMetBefore}
use Rattle.cover_checks.proofs.choosing.meet_columns.Goals as goal

pub loop-c-preserved : goal.loop-c-preserved
loop-c-preserved c = λ q Q W X terms k places R m. c.in_ok-met.ensures q Q W X terms k c.args.size places R (omega arith) (c.loop-c.invariant q Q W X terms k places R m)

pub returns-in_err-met : goal.returns-in_err-met
returns-in_err-met c = λ q Q W X terms k places R m. rw c.from_residual.ensures (c.in_err-met.ensures q Q W X terms k c.args.size places R (omega arith) (c.loop-c.invariant q Q W X terms k places R m))

pub returns : goal.returns
returns c = λ q Q W X terms k places R m.
    let e : c.loop-c.c ≡ c.args.size = omega arith in
    subst (λ z. AreMetBefore W X terms k c.args.w z c.loop-c.met) e (c.loop-c.invariant q Q W X terms k places R m)
