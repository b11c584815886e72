use Rattle.std.proofs.Common.{◌∙◌}
use Rattle.claim_text.specs.Texts.{IsTextOf}
use Rattle.claim_text.proofs.ReportLaws.{one_report, report_not_bad}
use Rattle.claim_text.proofs.laws.read_written.Goals as goal

pub returns-in-Ok-read-clause-same : goal.returns-in-Ok-read-clause-same
returns-in-Ok-read-clause-same c =
    let is : IsTextOf c.as_slice.result.now c.args.report.now = record { report_is = c.requires.is; spelled = c.as_slice.ensures.value ∙ c.in-Ok.ensures } in
    one_report c.as_slice.result.now c.in-Ok-read.again c.args.report.now c.in-Ok-read.ensures.report is

pub unreachable-requires : goal.unreachable-requires
unreachable-requires c =
    let is : IsTextOf c.as_slice.result.now c.args.report.now = record { report_is = c.requires.is; spelled = c.as_slice.ensures.value ∙ c.in-Ok.ensures } in
    report_not_bad c.as_slice.result.now c.args.report.now c.in-Err-BadText._line is (rw c.in-Err-BadText.field-0-is at c.in-Err-BadText.ensures.refused)
