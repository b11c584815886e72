use Rattle.bound_algebra.proofs.TwoSidedBasis.{right_basis}
use Rattle.bound_algebra.proofs.LocalModules.{right_projective_local, right_injective_local, right_injective_module}
use Rattle.bound_algebra.proofs.sequences.modules_at_vertices.Goals as goal

pub returns-clause-projective : goal.returns-clause-projective
returns-clause-projective c = λ h ok words w v l. right_projective_local h ok words w v l

pub returns-clause-projective_module : goal.returns-clause-projective_module
returns-clause-projective_module c = λ h ok words w v. (right_basis h ok words w).modules v

pub returns-clause-injective : goal.returns-clause-injective
returns-clause-injective c = λ h ok words w v l. right_injective_local h ok words w v l

pub returns-clause-injective_module : goal.returns-clause-injective_module
returns-clause-injective_module c = λ h ok words w v. right_injective_module h ok words w v
