use Rattle.local_modules.proofs.Multiplicities.{isomorphic_or_not, local_same}
use Rattle.local_modules.proofs.locality.isomorphic_to_a_local_module.Goals as goal

pub returns-clause-decided : goal.returns-clause-decided
returns-clause-decided c = λ q Q X Z l. isomorphic_or_not X l

pub returns-clause-local : goal.returns-clause-local
returns-clause-local c = λ q Q X Y s l. local_same s l
