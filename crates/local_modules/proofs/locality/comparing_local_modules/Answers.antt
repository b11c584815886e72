use Rattle.local_modules.proofs.LocalRings.{both_iso}
use Rattle.local_modules.proofs.Comparing.{isomorphic_or_apart, isomorphic_not_apart}
use Rattle.local_modules.proofs.locality.comparing_local_modules.Goals as goal

pub returns-clause-both : goal.returns-clause-both
returns-clause-both c = λ q Q X Y. both_iso

pub returns-clause-decided : goal.returns-clause-decided
returns-clause-decided c = λ q Q X Y. isomorphic_or_apart

pub returns-clause-never_both : goal.returns-clause-never_both
returns-clause-never_both c = λ q Q X Y. isomorphic_not_apart
