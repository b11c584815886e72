use Rattle.std.specs.Prelude.{⊤}
use Rattle.claim_conditions.specs.LocalConditions.{local_conditions}
use Rattle.claim_laws.proofs.FirstFailing.{one_answer, none_failing}
use Rattle.claim_laws.proofs.answers.one_answer.Goals as goal

pub returns-clause-once : goal.returns-clause-once
returns-clause-once c = λ h m basis ideal power residue r s a b. one_answer (local_conditions ⊤ h m basis ideal power residue) r s a b

pub returns-clause-none : goal.returns-clause-none
returns-clause-none c = λ h m basis ideal power residue which a b. none_failing (local_conditions ⊤ h m basis ideal power residue) which a b
