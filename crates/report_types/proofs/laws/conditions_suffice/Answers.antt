use Rattle.report_types.specs.Verdicts.{sides_by}
use Rattle.report_types.proofs.Suffices.{suffices, words_suffice}
use Rattle.report_types.proofs.laws.conditions_suffice.Goals as goal

pub returns-clause-holds : goal.returns-clause-holds
returns-clause-holds c = λ report k is held n. suffices report (sides_by n) is k (λ j l. held j l n)

pub returns-clause-words : goal.returns-clause-words
returns-clause-words c = words_suffice
