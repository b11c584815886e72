-- Rank factorisations of the two idempotents that a rank factorisation gives.
use Rattle.linear_algebra.proofs.Dimension.{complement, kernel_spans, cokernel_spans}
use Rattle.linear_algebra.proofs.matrices.kernel_and_cokernel.Goals as goal

pub returns-clause-exist : goal.returns-clause-exist
returns-clause-exist c = λ q m n f. complement f

pub returns-clause-kernel : goal.returns-clause-kernel
returns-clause-kernel c = λ q m n f a x e. kernel_spans f a x e

pub returns-clause-cokernel : goal.returns-clause-cokernel
returns-clause-cokernel c = λ q m n f a y e. cokernel_spans f a y e
