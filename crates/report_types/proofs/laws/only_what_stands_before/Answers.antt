use Rattle.report_types.proofs.VerdictLaws.{answer_stays, answer_stood, holds_stays, holds_stood}
use Rattle.report_types.proofs.laws.only_what_stands_before.Goals as goal

pub returns-clause-answer_stays : goal.returns-clause-answer_stays
returns-clause-answer_stays c = answer_stays

pub returns-clause-answer_stood : goal.returns-clause-answer_stood
returns-clause-answer_stood c = answer_stood

pub returns-clause-holds_stays : goal.returns-clause-holds_stays
returns-clause-holds_stays c = holds_stays

pub returns-clause-holds_stood : goal.returns-clause-holds_stood
returns-clause-holds_stood c = holds_stood
