use Rattle.claim_text.proofs.ReportLaws.{one_report, one_bad_line, report_not_bad, report_or_bad}
use Rattle.claim_text.proofs.laws.texts_are_read_once.Goals as goal

pub returns-clause-one : goal.returns-clause-one
returns-clause-one c = one_report

pub returns-clause-one_bad : goal.returns-clause-one_bad
returns-clause-one_bad c = one_bad_line

pub returns-clause-not_bad : goal.returns-clause-not_bad
returns-clause-not_bad c = report_not_bad

pub returns-clause-read_or_bad : goal.returns-clause-read_or_bad
returns-clause-read_or_bad c = report_or_bad
