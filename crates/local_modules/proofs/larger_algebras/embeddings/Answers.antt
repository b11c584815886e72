use Rattle.std.proofs.Common.{refl}
use Rattle.linear_algebra.proofs.Solving.{in_span_self}
use Rattle.local_modules.proofs.Embeddings.{embedded_ideal, ideal_embedded, embedded_least, least_embedded, embedded_frobenius, frobenius_embedded, embedded_listed, listed_embedded, embedded_certificate, certificate_embedded}
use Rattle.local_modules.proofs.larger_algebras.embeddings.Goals as goal

pub returns-clause-ideal : goal.returns-clause-ideal
returns-clause-ideal c = λ q A E f e k I. embedded_ideal A E f e I

pub returns-clause-ideal_back : goal.returns-clause-ideal_back
returns-clause-ideal_back c = λ q A E f e k I. ideal_embedded A E f e I

pub returns-clause-power : goal.returns-clause-power
returns-clause-power c = λ q A E f e k I s. embedded_least A E f e I s

pub returns-clause-power_back : goal.returns-clause-power_back
returns-clause-power_back c = λ q A E f e k I s. least_embedded A E f e I s

pub returns-clause-frobenius : goal.returns-clause-frobenius
returns-clause-frobenius c = λ q A E f e k I. embedded_frobenius A E f e I

pub returns-clause-frobenius_back : goal.returns-clause-frobenius_back
returns-clause-frobenius_back c = λ q A E f e k I. frobenius_embedded A E f e I

pub returns-clause-listed : goal.returns-clause-listed
returns-clause-listed c = λ q A E f e k I. embedded_listed A E f e I

pub returns-clause-listed_back : goal.returns-clause-listed_back
returns-clause-listed_back c = λ q A E f e k I. listed_embedded A E f e I

pub returns-clause-certificate : goal.returns-clause-certificate
returns-clause-certificate c = λ q A E f e k I pivot r d s l h. (embedded_certificate A E f e I pivot r d s l h, in_span_self I, in_span_self I, refl)

pub returns-clause-certificate_back : goal.returns-clause-certificate_back
returns-clause-certificate_back c = λ q A E f e. certificate_embedded A E f e
