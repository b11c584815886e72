use Rattle.local_modules.proofs.ApartSums.{apart_nilpotent, diagonal_iso}
use Rattle.local_modules.proofs.RadicalOfSum.{pairwise_apart}
use Rattle.local_modules.proofs.sums.endomorphisms_by_parts.Goals as goal

pub returns-clause-pairwise : goal.returns-clause-pairwise
returns-clause-pairwise c = λ q Q n Y. pairwise_apart n Y

pub returns-clause-nilpotent : goal.returns-clause-nilpotent
returns-clause-nilpotent c = λ q Q n Y. apart_nilpotent n Y

pub returns-clause-isomorphism : goal.returns-clause-isomorphism
returns-clause-isomorphism c = λ q Q n Y. diagonal_iso n Y
