-- By the laws of matrices at each vertex.
use Rattle.representations.proofs.Homs.{compose_assoc, compose_identity, identity_compose, compose_sum, sum_compose, compose_multiple, multiple_compose}
use Rattle.representations.proofs.homomorphisms.category.Goals as goal

pub returns-clause-associates : goal.returns-clause-associates
returns-clause-associates c = λ q Q W X Y Z f g h. compose_assoc f g h

pub returns-clause-identity_after : goal.returns-clause-identity_after
returns-clause-identity_after c = λ q Q X Y f. compose_identity f

pub returns-clause-identity_before : goal.returns-clause-identity_before
returns-clause-identity_before c = λ q Q X Y f. identity_compose f

pub returns-clause-sums_after : goal.returns-clause-sums_after
returns-clause-sums_after c = λ q Q X Y Z f g h. compose_sum f g h

pub returns-clause-sums_before : goal.returns-clause-sums_before
returns-clause-sums_before c = λ q Q X Y Z f g h. sum_compose f g h

pub returns-clause-multiples_after : goal.returns-clause-multiples_after
returns-clause-multiples_after c = λ q Q X Y Z c f g. compose_multiple c f g

pub returns-clause-multiples_before : goal.returns-clause-multiples_before
returns-clause-multiples_before c = λ q Q X Y Z c f g. multiple_compose c f g
