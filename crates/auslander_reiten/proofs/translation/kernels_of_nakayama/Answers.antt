-- By the kernel in reduced row form.
use Rattle.auslander_reiten.proofs.Translates.{nakayama_kernel, reduced_kernel_once, nakayama_kernel_module, nakayama_kernel_size}
use Rattle.auslander_reiten.proofs.translation.kernels_of_nakayama.Goals as goal

pub returns-clause-exists : goal.returns-clause-exists
returns-clause-exists c = λ q A T k v h u d. nakayama_kernel T k v h u d

pub returns-clause-once : goal.returns-clause-once
returns-clause-once c = λ q Q N N' X Y i j f a r b s w. reduced_kernel_once i j f a r b s w

pub returns-clause-modules : goal.returns-clause-modules
returns-clause-modules c = λ q A T k v h u d N i t. nakayama_kernel_module T k v h u d i t

pub returns-clause-sizes : goal.returns-clause-sizes
returns-clause-sizes c = λ q A T k v h u d N i t w. nakayama_kernel_size T k v h u d i t w
