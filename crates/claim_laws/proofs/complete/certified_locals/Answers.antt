use Rattle.std.specs.Prelude.{⊤}
use Rattle.claim_laws.proofs.LocalLaws.{local_complete}
use Rattle.claim_laws.proofs.complete.certified_locals.Goals as goal

pub returns : goal.returns
returns c = λ h m basis k l. local_complete h m basis ⊤ k tt l
