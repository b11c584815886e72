-- By cases on the vertices and the places.
use Rattle.projectives.proofs.SmallAlgebras.{loop_basis, kronecker_basis}
use Rattle.projectives.proofs.examples.small_algebras.Goals as goal

pub returns-clause-one_loop : goal.returns-clause-one_loop
returns-clause-one_loop c = λ q. loop_basis q

pub returns-clause-kronecker : goal.returns-clause-kronecker
returns-clause-kronecker c = λ q. kronecker_basis q
