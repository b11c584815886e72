use Rattle.std.specs.Prelude.{⊤}
use Rattle.claim_laws.proofs.KernelLaws.{cokernel_suffices}
use Rattle.claim_laws.proofs.suffice.cokernels.Goals as goal

pub returns : goal.returns
returns c = λ h n a b f p. cokernel_suffices ⊤ h n a b f p
