use Rattle.local_modules.proofs.Subalgebras.{subalgebra_same, ideal_of_same, frobenius_of_same, listed_of_same}
use Rattle.local_modules.proofs.larger_algebras.spans_count.Goals as goal

pub returns-clause-subalgebra : goal.returns-clause-subalgebra
returns-clause-subalgebra c = λ q E m n ring f a b. subalgebra_same E ring f a b

pub returns-clause-ideal : goal.returns-clause-ideal
returns-clause-ideal c = λ q E m n k l ring f ideal J a b x y. ideal_of_same E ring f ideal J a b x y

pub returns-clause-frobenius : goal.returns-clause-frobenius
returns-clause-frobenius c = λ q E m n k l ring f ideal J a b x y. frobenius_of_same E ring f ideal J a b x y

pub returns-clause-listed : goal.returns-clause-listed
returns-clause-listed c = λ q E m n k l ring f ideal J a b x y. listed_of_same E ring f ideal J a b x y
