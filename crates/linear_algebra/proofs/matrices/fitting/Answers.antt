-- The chain of row spaces of the powers settles.
use Rattle.linear_algebra.proofs.Fitting.{fitting as parts_of, fitting_invertible, nilpotent_vanishes}
use Rattle.linear_algebra.proofs.matrices.fitting.Goals as goal

pub returns-clause-parts : goal.returns-clause-parts
returns-clause-parts c = λ q d e x h y. parts_of x e h y

pub returns-clause-basis : goal.returns-clause-basis
returns-clause-basis c = λ q d e x h a. fitting_invertible x e h a

pub returns-clause-nilpotent : goal.returns-clause-nilpotent
returns-clause-nilpotent c = λ q d e x h i. nilpotent_vanishes x e h i
