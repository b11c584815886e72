-- By the coefficient of the generator.
use Rattle.auslander_reiten.proofs.LocalProjectives.{projective_local, injective_local, dual_local}
use Rattle.auslander_reiten.proofs.indecomposables.modules_at_vertices.Goals as goal

pub returns-clause-projectives : goal.returns-clause-projectives
returns-clause-projectives c = λ q A W B v h. projective_local A W B v h

pub returns-clause-injectives : goal.returns-clause-injectives
returns-clause-injectives c = λ q A T v h. injective_local T v h

pub returns-clause-duals : goal.returns-clause-duals
returns-clause-duals c = λ q Q X l. dual_local l
