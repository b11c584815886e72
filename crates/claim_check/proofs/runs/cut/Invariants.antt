use Rattle.std.proofs.Common.{◌≤◌, length}
use Rattle.claim_check.specs.Runs.{AreRuns}
use Rattle.claim_check.proofs.runs.cut.Given as goal

abbrev pub invariant-loop-done : goal.invariant-loop-done
invariant-loop-done l = AreRuns l.report 1 l.behind l.runs.items × (1 ≤ l.behind) × (l.behind ≤ length l.report.records)
