use Rattle.std.specs.Prelude.{⊤}
use Rattle.claim_laws.proofs.DecompositionLaws.{decomposition_complete}
use Rattle.claim_laws.proofs.complete.ordered_decompositions.Goals as goal

pub returns : goal.returns
returns c = λ h a s parts to back. decomposition_complete ⊤ h a s parts to back tt
