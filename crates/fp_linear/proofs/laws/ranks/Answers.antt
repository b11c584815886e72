use Rattle.fp_linear.proofs.RankOf.{rank_of_form, rank_of_answer}
use Rattle.fp_linear.proofs.laws.ranks.Goals as goal

pub returns-clause-forms : goal.returns-clause-forms
returns-clause-forms c = rank_of_form

pub returns-clause-answers : goal.returns-clause-answers
returns-clause-answers c = rank_of_answer
