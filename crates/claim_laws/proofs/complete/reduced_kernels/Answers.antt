use Rattle.std.specs.Prelude.{⊤}
use Rattle.claim_laws.proofs.KernelLaws.{kernel_complete, cokernel_complete}
use Rattle.claim_laws.proofs.RadicalLaws.{radical_complete}
use Rattle.claim_laws.proofs.complete.reduced_kernels.Goals as goal

pub returns-clause-kernels : goal.returns-clause-kernels
returns-clause-kernels c = λ h n a b f i k r. kernel_complete ⊤ h n a b f i tt k r

pub returns-clause-cokernels : goal.returns-clause-cokernels
returns-clause-cokernels c = λ h n a b f p k r. cokernel_complete ⊤ h n a b f p tt k r

pub returns-clause-radicals : goal.returns-clause-radicals
returns-clause-radicals c = λ h n a i k r. radical_complete ⊤ h n a i tt k r
