use Rattle.report_types.proofs.VerdictLaws.{words_of, one_verdict}
use Rattle.report_types.proofs.laws.one_verdict.Goals as goal

pub returns-clause-words : goal.returns-clause-words
returns-clause-words c = words_of

pub returns-clause-once : goal.returns-clause-once
returns-clause-once c = λ report v w ok f g. one_verdict report (words_of report.header ok) v w f g
