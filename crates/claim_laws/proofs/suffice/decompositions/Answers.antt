use Rattle.std.specs.Prelude.{⊤}
use Rattle.claim_laws.proofs.DecompositionLaws.{decomposition_suffices}
use Rattle.claim_laws.proofs.suffice.decompositions.Goals as goal

pub returns : goal.returns
returns c = λ h a s parts to back. decomposition_suffices ⊤ h a s parts to back
