use Rattle.std.specs.Prelude.{⊤}
use Rattle.claim_laws.proofs.ResolutionLaws.{resolution_complete}
use Rattle.claim_laws.proofs.ExtensionLaws.{extension_complete}
use Rattle.claim_laws.proofs.complete.chosen_resolutions.Goals as goal

pub returns-clause-chosen : goal.returns-clause-chosen
returns-clause-chosen c = λ h T a terms n m. resolution_complete h T a terms n m

pub returns-clause-extensions : goal.returns-clause-extensions
returns-clause-extensions c = λ h T a b terms n rows. extension_complete ⊤ h T a b terms n rows tt
