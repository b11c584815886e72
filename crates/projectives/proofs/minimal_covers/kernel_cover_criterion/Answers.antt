-- Through the factor that goes onto the kernel.
use Rattle.projectives.proofs.KernelCovers.{kernel_minimal_of_independent, independent_of_kernel_minimal}
use Rattle.projectives.proofs.minimal_covers.kernel_cover_criterion.Goals as goal

pub returns-clause-minimal : goal.returns-clause-minimal
returns-clause-minimal c = λ q A W B k v N X Y i mono d inclusion f exact x values independent. kernel_minimal_of_independent A W B k v i mono d inclusion f exact x values independent

pub returns-clause-independent : goal.returns-clause-independent
returns-clause-independent c = λ q A W B k v N X Y i mono d inclusion f exact x values minimal. independent_of_kernel_minimal A W B k v i mono d inclusion f exact x values minimal
