-- By the first column; the places are determined by the kernel.
use Rattle.linear_algebra.proofs.CoReduced.{coreduced_form}
use Rattle.linear_algebra.proofs.CoReducedUnique.{coreduced_unique}
use Rattle.linear_algebra.proofs.matrices.co_reduced_form.Goals as goal

pub returns-clause-exists : goal.returns-clause-exists
returns-clause-exists c = λ q m n f. coreduced_form f

pub returns-clause-unique : goal.returns-clause-unique
returns-clause-unique c = λ q n b a g h p r d e s t. coreduced_unique g h p r d e s t
