use Rattle.std.proofs.Common.{length}
use Rattle.claim_check.proofs.RunVerdicts.{all_runs, verdict_of_runs}
use Rattle.claim_check.proofs.reports.check_later.Goals as goal

pub map_in_order-requires-clause-accepts : goal.map_in_order-requires-clause-accepts
map_in_order-requires-clause-accepts g c κs within = λ k d l. (
  c.requires.report,
  c.requires.table,
  c.requires.gate,
  all_runs c.args.report.now 1 (length c.args.report.now.records) c.in_ok-runs.runs.items c.in_ok-runs.ensures k d l,
)

pub returns : goal.returns
returns g c =
    verdict_of_runs c.args.report.now c.in_ok-runs.runs.items c.in_ok-verdicts.verdicts.items c.as_slice.result.now c.first_failure.result c.in_ok-runs.ensures c.in_ok-verdicts.ensures
    c.as_slice.ensures.value c.first_failure.ensures c.requires.table.holds
