use Rattle.std.specs.Prelude.{⊤}
use Rattle.claim_laws.proofs.RadicalLaws.{radical_suffices}
use Rattle.claim_laws.proofs.suffice.radicals.Goals as goal

pub returns : goal.returns
returns c = λ h n a i. radical_suffices ⊤ h n a i
