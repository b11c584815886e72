use Rattle.std.specs.Prelude.{⊤}
use Rattle.claim_laws.proofs.TranslateLaws.{tau_suffices, transpose_suffices, taui_suffices}
use Rattle.claim_laws.proofs.suffice.translates.Goals as goal

pub returns-clause-tau : goal.returns-clause-tau
returns-clause-tau c = λ h T n a terms embedding. tau_suffices ⊤ h T n a terms embedding

pub returns-clause-transpose : goal.returns-clause-transpose
returns-clause-transpose c = λ h T n a terms projection. transpose_suffices ⊤ h T n a terms projection

pub returns-clause-taui : goal.returns-clause-taui
returns-clause-taui c = λ h T n a b terms projection. taui_suffices ⊤ h T n a b terms projection
