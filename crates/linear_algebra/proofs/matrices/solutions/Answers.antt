-- The kernel of the matrix of the function, in reduced row form.
use Rattle.linear_algebra.proofs.Solutions.{solution_basis, solution_size}
use Rattle.linear_algebra.proofs.matrices.solutions.Goals as goal

pub returns-clause-basis : goal.returns-clause-basis
returns-clause-basis c = λ q m n f h. solution_basis f h

pub returns-clause-size : goal.returns-clause-size
returns-clause-size c = λ q m n f h s a. solution_size f h s a
