use Rattle.local_modules.proofs.FittingSplitting.{fitting_cases, local_no_splitting}
use Rattle.local_modules.proofs.locality.fitting.Goals as goal

pub returns-clause-cases : goal.returns-clause-cases
returns-clause-cases c = λ q Q X x. fitting_cases x

pub returns-clause-indecomposable : goal.returns-clause-indecomposable
returns-clause-indecomposable c = λ q Q X. local_no_splitting
