use Rattle.std.proofs.Common.{sym, subst, arith}
use Rattle.claim_check.specs.Runs.{IsFirstBehind}
use Rattle.claim_check.proofs.RunVerdicts.{one_behind, fails_behind}
use Rattle.claim_check.proofs.runs.check_run.Goals as goal

pub returns-in-Fails : goal.returns-in-Fails
returns-in-Fails g c =
    subst (λ i. IsFirstBehind c.args.report.now c.args.behind i c.in-Fails.clause) (sym c.in-Fails.ensures.verdict.0)
    (fails_behind c.args.report.now c.args.behind c.loop-k.k c.in-Fails.clause (omega (arith, c.loop-k.auto.k)) c.loop-k.invariant.0 c.in-Fails.ensures.verdict.1)

pub loop-k-preserved : goal.loop-k-preserved
loop-k-preserved g c = (one_behind c.args.report.now c.args.behind c.loop-k.k c.loop-k.invariant.0 c.in_default.ensures.verdict, c.in_default.ensures.room_stays)
