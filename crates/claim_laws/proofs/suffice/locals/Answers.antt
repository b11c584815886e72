use Rattle.std.specs.Prelude.{⊤}
use Rattle.claim_laws.proofs.LocalLaws.{local_suffices}
use Rattle.claim_laws.proofs.suffice.locals.Goals as goal

pub returns : goal.returns
returns c = λ h m basis ideal power residue. local_suffices h m basis ideal ⊤ power residue
