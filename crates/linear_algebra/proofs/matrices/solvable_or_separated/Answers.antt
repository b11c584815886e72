-- By a rank factorisation.
use Rattle.linear_algebra.proofs.Solving.{solve_or, separate_not_in_span}
use Rattle.linear_algebra.proofs.matrices.solvable_or_separated.Goals as goal

pub returns-clause-one : goal.returns-clause-one
returns-clause-one c = λ q m n f y. solve_or f y

pub returns-clause-not_both : goal.returns-clause-not_both
returns-clause-not_both c = λ q m n f y s i. separate_not_in_span f y s i
