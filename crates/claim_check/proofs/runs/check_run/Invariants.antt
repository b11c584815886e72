use Rattle.report_types.specs.declared.verdicts.Verdict.TheVariants as verdict
use Rattle.claim_check.specs.Room.{HasRoom}
use Rattle.claim_check.specs.Runs.{IsRunVerdict}
use Rattle.claim_check.proofs.runs.check_run.Given as goal

abbrev pub invariant-loop-k : goal.invariant-loop-k
invariant-loop-k g l = IsRunVerdict l.report l.behind l.k verdict.Holds × HasRoom l.report.records l.scratch.bytes.items l.scratch.numbers.items
