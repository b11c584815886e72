use Rattle.local_modules.proofs.Decomposing.{decompose, decompositions_match}
use Rattle.local_modules.proofs.certificates.decomposition_into_local_modules.Goals as goal

pub returns-clause-exists : goal.returns-clause-exists
returns-clause-exists c = λ q Q X. decompose X

pub returns-clause-unique : goal.returns-clause-unique
returns-clause-unique c = λ q Q X D E. decompositions_match X D E
