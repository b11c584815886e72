-- By a functional on the endomorphisms of M, and by kernels.
use Rattle.std.proofs.Common.{refl}
use Rattle.auslander_reiten.proofs.IdealFunctional.{functional_of_ideal, functional_of_certificate, seen_member}
use Rattle.auslander_reiten.proofs.RadicalFunctional.{end_functional}
use Rattle.auslander_reiten.proofs.AlmostSplitSequences.{canonical_sequence}
use Rattle.auslander_reiten.proofs.sequences.data_exist.Goals as goal

pub returns-clause-functionals : goal.returns-clause-functionals
returns-clause-functionals c = λ q A T M D. end_functional T D

pub returns-clause-sequences : goal.returns-clause-sequences
returns-clause-sequences c = λ q A T M D F. canonical_sequence T D F

pub returns-clause-by_ideal : goal.returns-clause-by_ideal
returns-clause-by_ideal c = λ q A T M D B t m ideal s k e d. (functional_of_ideal T D B t ideal s k e d, refl)

pub returns-clause-on_basis : goal.returns-clause-on_basis
returns-clause-on_basis c = λ q A T M D B t x d. seen_member T D B t x d

pub returns-clause-by_certificate : goal.returns-clause-by_certificate
returns-clause-by_certificate c = λ q A T M D B t l k e d. (functional_of_certificate T D B t l k e d, refl)
