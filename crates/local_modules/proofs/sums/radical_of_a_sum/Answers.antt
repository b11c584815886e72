use Rattle.local_modules.proofs.RadicalOfSum.{radical_sum, radical_multiple, radical_after, radical_before, radical_vanishes, identity_minus_radical, radical_of_inverses}
use Rattle.local_modules.proofs.sums.radical_of_a_sum.Goals as goal

pub returns-clause-sums : goal.returns-clause-sums
returns-clause-sums c = λ q Q n Y. radical_sum n Y

pub returns-clause-multiples : goal.returns-clause-multiples
returns-clause-multiples c = λ q Q n Y. radical_multiple n Y

pub returns-clause-right : goal.returns-clause-right
returns-clause-right c = λ q Q n Y. radical_after n Y

pub returns-clause-left : goal.returns-clause-left
returns-clause-left c = λ q Q n Y. radical_before n Y

pub returns-clause-power : goal.returns-clause-power
returns-clause-power c = λ q Q n Y. radical_vanishes n Y

pub returns-clause-inverses : goal.returns-clause-inverses
returns-clause-inverses c = λ q Q n Y. identity_minus_radical n Y

pub returns-clause-all : goal.returns-clause-all
returns-clause-all c = λ q Q n Y. radical_of_inverses n Y
