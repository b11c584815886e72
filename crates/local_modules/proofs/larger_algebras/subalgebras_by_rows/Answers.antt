use Rattle.local_modules.proofs.Subalgebras.{subalgebra_by_rows, ideal_by_rows, commutes_by_rows, subalgebra_embedded}
use Rattle.local_modules.proofs.larger_algebras.subalgebras_by_rows.Goals as goal

pub returns-clause-subalgebra : goal.returns-clause-subalgebra
returns-clause-subalgebra c = λ q E n ring u p. subalgebra_by_rows E ring u p

pub returns-clause-ideal : goal.returns-clause-ideal
returns-clause-ideal c = λ q E n k ring ideal p r. ideal_by_rows E ring ideal p r

pub returns-clause-commutative : goal.returns-clause-commutative
returns-clause-commutative c = λ q E n k ring ideal p. commutes_by_rows E ring ideal p

pub returns-clause-coordinates : goal.returns-clause-coordinates
returns-clause-coordinates c = λ q E n ring i s. subalgebra_embedded E ring i s
