use Rattle.bound_algebra.proofs.TwoSidedBasis.{left_basis}
use Rattle.bound_algebra.proofs.LocalModules.{left_projective_local, left_injective_local, left_injective_module}
use Rattle.bound_algebra.proofs.sequences.left_modules_at_vertices.Goals as goal

pub returns-clause-projective : goal.returns-clause-projective
returns-clause-projective c = λ h ok words w v l. left_projective_local h ok words w v l

pub returns-clause-projective_module : goal.returns-clause-projective_module
returns-clause-projective_module c = λ h ok words w v. (left_basis h ok words w).modules v

pub returns-clause-injective : goal.returns-clause-injective
returns-clause-injective c = λ h ok words w v l. left_injective_local h ok words w v l

pub returns-clause-injective_module : goal.returns-clause-injective_module
returns-clause-injective_module c = λ h ok words w v. left_injective_module h ok words w v
