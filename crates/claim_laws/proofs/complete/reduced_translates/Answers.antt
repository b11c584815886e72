use Rattle.std.specs.Prelude.{⊤}
use Rattle.claim_laws.proofs.TranslateLaws.{tau_complete, transpose_complete, taui_complete}
use Rattle.claim_laws.proofs.complete.reduced_translates.Goals as goal

pub returns-clause-tau : goal.returns-clause-tau
returns-clause-tau c = λ h T n a terms embedding. tau_complete ⊤ h T n a terms embedding tt

pub returns-clause-transpose : goal.returns-clause-transpose
returns-clause-transpose c = λ h T n a terms projection. transpose_complete ⊤ h T n a terms projection tt

pub returns-clause-taui : goal.returns-clause-taui
returns-clause-taui c = λ h T n a b terms projection. taui_complete ⊤ h T n a b terms projection tt
