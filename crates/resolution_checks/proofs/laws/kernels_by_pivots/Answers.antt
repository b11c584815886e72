use Rattle.resolution_checks.proofs.KernelBases.{kernel_basis_once, coefficients_at_pivots, given_back, closed_by_arrows}
use Rattle.resolution_checks.proofs.laws.kernels_by_pivots.Goals as goal

pub returns-clause-once : goal.returns-clause-once
returns-clause-once c = λ q m n k f K pivot r z s. kernel_basis_once f K pivot r z s

pub returns-clause-coefficients : goal.returns-clause-coefficients
returns-clause-coefficients c = λ q m k n K pivot r y s. coefficients_at_pivots K pivot r y s

pub returns-clause-given_back : goal.returns-clause-given_back
returns-clause-given_back c = λ q m k n K pivot r y s. given_back K pivot r y s

pub returns-clause-arrows : goal.returns-clause-arrows
returns-clause-arrows c = λ q Q X n f h. closed_by_arrows X f h
