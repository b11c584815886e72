use Rattle.std.proofs.Common.{◌≡◌, drop}
use Rattle.claim_check.specs.Runs.{first_failure}
use Rattle.claim_check.proofs.runs.first_failure.Given as goal

abbrev pub invariant-loop-verdict : goal.invariant-loop-verdict
invariant-loop-verdict l = first_failure l.verdicts ≡ first_failure (drop l.verdict-index l.verdicts)
