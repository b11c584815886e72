-- The size theorem, and the kernel.
use Rattle.linear_algebra.proofs.Steinitz.{steinitz}
use Rattle.linear_algebra.proofs.Subspaces.{dependent}
use Rattle.linear_algebra.proofs.matrices.independent_rows.Goals as goal

pub returns-clause-at_most : goal.returns-clause-at_most
returns-clause-at_most c = λ q m n f i. steinitz f i.inverse i.is

pub returns-clause-dependent : goal.returns-clause-dependent
returns-clause-dependent c = λ q m n f h. dependent f h
