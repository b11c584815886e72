use Rattle.local_modules.proofs.Endomorphisms.{decide}
use Rattle.local_modules.proofs.Decision.{decide_algebra}
use Rattle.local_modules.proofs.certificates.locality_is_decided.Goals as goal

pub returns-clause-module : goal.returns-clause-module
returns-clause-module c = λ q Q X B. decide X B

pub returns-clause-algebra : goal.returns-clause-algebra
returns-clause-algebra c = λ q A n. decide_algebra A n
