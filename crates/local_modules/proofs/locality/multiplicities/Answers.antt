use Rattle.local_modules.proofs.Counting.{one_count, counts_agree}
use Rattle.local_modules.proofs.Multiplicities.{count_among_local, count_of_local, decompositions_count}
use Rattle.local_modules.proofs.locality.multiplicities.Goals as goal

pub returns-clause-exists : goal.returns-clause-exists
returns-clause-exists c = λ q Q m X l Z. count_among_local m X l Z

pub returns-clause-of_local : goal.returns-clause-of_local
returns-clause-of_local c = λ q Q m X Z l. count_of_local m X Z l

pub returns-clause-one : goal.returns-clause-one
returns-clause-one c = λ q Q m X Z. one_count m X Z

pub returns-clause-same_sum : goal.returns-clause-same_sum
returns-clause-same_sum c = λ q Q m n X Y. counts_agree m n X Y

pub returns-clause-decompositions : goal.returns-clause-decompositions
returns-clause-decompositions c = λ q Q X D E Z. decompositions_count X D E Z
