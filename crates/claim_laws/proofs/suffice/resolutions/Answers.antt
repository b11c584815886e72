use Rattle.claim_laws.proofs.ResolutionLaws.{resolution_suffices}
use Rattle.claim_laws.proofs.suffice.resolutions.Goals as goal

pub returns : goal.returns
returns c = λ h T a terms n m. resolution_suffices h T a terms n m
