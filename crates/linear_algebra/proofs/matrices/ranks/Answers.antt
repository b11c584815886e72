-- By a rank factorisation, and by the sizes of kernels.
use Rattle.linear_algebra.proofs.Dimension.{rank_is}
use Rattle.linear_algebra.proofs.Ranks.{inverse_of_rank, rank_of_inverse, zeros_of_rank, rank_of_zeros, same_kernel_same_rank}
use Rattle.linear_algebra.proofs.matrices.ranks.Goals as goal

pub returns-clause-is_size : goal.returns-clause-is_size
returns-clause-is_size c = λ q m n f a. rank_is a

pub returns-clause-full : goal.returns-clause-full
returns-clause-full c = λ q n f e. inverse_of_rank f e

pub returns-clause-invertible : goal.returns-clause-invertible
returns-clause-invertible c = λ q n f i. rank_of_inverse f i

pub returns-clause-none : goal.returns-clause-none
returns-clause-none c = λ q m n f e. zeros_of_rank f e

pub returns-clause-zero : goal.returns-clause-zero
returns-clause-zero c = λ q m n f e. rank_of_zeros f e

pub returns-clause-same_kernel : goal.returns-clause-same_kernel
returns-clause-same_kernel c = λ q k m n f g h r. same_kernel_same_rank f g h r
