use Rattle.local_modules.proofs.Endomorphisms.{local_of_certificate, certificate_of_local}
use Rattle.local_modules.proofs.ResidueConditions.{certificate_local}
use Rattle.local_modules.proofs.certificates.local_exactly_by_certificate.Goals as goal

pub returns-clause-sufficient : goal.returns-clause-sufficient
returns-clause-sufficient c = λ q Q X B. local_of_certificate B

pub returns-clause-necessary : goal.returns-clause-necessary
returns-clause-necessary c = λ q Q X B. certificate_of_local B

pub returns-clause-algebra : goal.returns-clause-algebra
returns-clause-algebra c = λ q A. certificate_local A
