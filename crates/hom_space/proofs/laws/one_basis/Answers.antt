use Rattle.hom_space.proofs.HomBases.{one_basis, reduced_where}
use Rattle.hom_space.proofs.laws.one_basis.Goals as goal

pub returns-clause-answers : goal.returns-clause-answers
returns-clause-answers c = one_basis

pub returns-clause-claims : goal.returns-clause-claims
returns-clause-claims c = λ h a b r s u v x y. one_basis h a b r s (reduced_where h a b r u x) (reduced_where h a b s v y)
