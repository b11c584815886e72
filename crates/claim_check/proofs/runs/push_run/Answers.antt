use Rattle.claim_check.proofs.RunVerdicts.{run_pushed}
use Rattle.claim_check.proofs.runs.push_run.Goals as goal

pub returns : goal.returns
returns c =
    run_pushed c.args.report.now 1 c.args.behind c.args.last c.args.runs.now.items c.push.new.self.items c.in_ok-scratch.scratch c.requires.runs c.requires.claims c.in_ok-scratch.ensures
    c.in_ok-push.ensures.items
