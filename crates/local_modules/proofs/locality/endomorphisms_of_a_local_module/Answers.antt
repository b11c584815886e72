use Rattle.local_modules.proofs.LocalRings.{never_both, nilpotent_sum, nilpotent_multiple, nilpotent_after, nilpotent_before, iso_minus_nilpotent, idempotents}
use Rattle.local_modules.proofs.locality.endomorphisms_of_a_local_module.Goals as goal

pub returns-clause-never_both : goal.returns-clause-never_both
returns-clause-never_both c = λ q Q X L. never_both L

pub returns-clause-sums : goal.returns-clause-sums
returns-clause-sums c = λ q Q X L. nilpotent_sum L

pub returns-clause-multiples : goal.returns-clause-multiples
returns-clause-multiples c = λ q Q X L. nilpotent_multiple L

pub returns-clause-right : goal.returns-clause-right
returns-clause-right c = λ q Q X L. nilpotent_after L

pub returns-clause-left : goal.returns-clause-left
returns-clause-left c = λ q Q X L. nilpotent_before L

pub returns-clause-differences : goal.returns-clause-differences
returns-clause-differences c = λ q Q X L. iso_minus_nilpotent L

pub returns-clause-idempotents : goal.returns-clause-idempotents
returns-clause-idempotents c = λ q Q X L. idempotents L
