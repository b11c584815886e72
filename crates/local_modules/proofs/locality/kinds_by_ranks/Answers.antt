use Rattle.local_modules.proofs.KindsByRanks.{iso_by_ranks, ranks_of_iso, nilpotent_by_ranks, ranks_of_nilpotent}
use Rattle.local_modules.proofs.locality.kinds_by_ranks.Goals as goal

pub returns-clause-isomorphism : goal.returns-clause-isomorphism
returns-clause-isomorphism c = λ q Q X x k l h. iso_by_ranks x k l h

pub returns-clause-isomorphism_back : goal.returns-clause-isomorphism_back
returns-clause-isomorphism_back c = λ q Q X x i k v. ranks_of_iso x i k v

pub returns-clause-nilpotent : goal.returns-clause-nilpotent
returns-clause-nilpotent c = λ q Q X x k h. nilpotent_by_ranks x k h

pub returns-clause-nilpotent_back : goal.returns-clause-nilpotent_back
returns-clause-nilpotent_back c = λ q Q X x n k b v. ranks_of_nilpotent x n k b v
