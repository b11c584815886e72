use Rattle.std.specs.Prelude.{⊤}
use Rattle.claim_laws.proofs.ExtensionLaws.{extension_suffices}
use Rattle.claim_laws.proofs.suffice.extensions.Goals as goal

pub returns : goal.returns
returns c = λ h T a b terms n rows. extension_suffices ⊤ h T a b terms n rows
