use Rattle.bound_algebra.proofs.PathMatrices.{path_matrix-trivial, path_matrix-behind, path_matrix-apart}
use Rattle.bound_algebra.proofs.modules.matrices_of_paths.Goals as goal

pub returns-clause-trivial : goal.returns-clause-trivial
returns-clause-trivial c = λ q Q X v. path_matrix-trivial Q X v

pub returns-clause-behind : goal.returns-clause-behind
returns-clause-behind c = λ q Q X v p a l r. path_matrix-behind Q X v p a l r

pub returns-clause-apart : goal.returns-clause-apart
returns-clause-apart c = λ q Q X v w p d. path_matrix-apart Q X v w p d
