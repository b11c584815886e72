use Rattle.script_answers.proofs.OneRefusal.{one_refusal}
use Rattle.script_answers.proofs.laws.one_refusal.Goals as goal

pub returns : goal.returns
returns c = λ at s records v w ok x y. one_refusal at ok s records v w x y
