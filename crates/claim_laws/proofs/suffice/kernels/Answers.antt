use Rattle.std.specs.Prelude.{⊤}
use Rattle.claim_laws.proofs.KernelLaws.{kernel_suffices}
use Rattle.claim_laws.proofs.suffice.kernels.Goals as goal

pub returns : goal.returns
returns c = λ h n a b f i. kernel_suffices ⊤ h n a b f i
