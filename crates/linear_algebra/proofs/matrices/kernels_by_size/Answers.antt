-- Reduced rows are independent, co-reduced matrices are surjective.
use Rattle.linear_algebra.proofs.KernelsBySize.{kernel_by_reduced_rows, reduced_rows_of_kernel, cokernel_by_coreduced_matrix, coreduced_matrix_of_cokernel}
use Rattle.linear_algebra.proofs.matrices.kernels_by_size.Goals as goal

pub returns-clause-kernel : goal.returns-clause-kernel
returns-clause-kernel c = λ q k m n f i p r e s x z. kernel_by_reduced_rows f i p r e s x z

pub returns-clause-kernel_size : goal.returns-clause-kernel_size
returns-clause-kernel_size c = λ q k m n f i p r e h. reduced_rows_of_kernel f i p r e h

pub returns-clause-cokernel : goal.returns-clause-cokernel
returns-clause-cokernel c = λ q m n d f g p r e s x z. cokernel_by_coreduced_matrix f g p r e s x z

pub returns-clause-cokernel_size : goal.returns-clause-cokernel_size
returns-clause-cokernel_size c = λ q m n d f g p r e h. coreduced_matrix_of_cokernel f g p r e h
