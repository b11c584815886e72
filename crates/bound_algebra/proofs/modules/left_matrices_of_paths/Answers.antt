use Rattle.bound_algebra.proofs.PathMatrices.{left_path_matrix-trivial, left_path_matrix-behind, left_path_matrix-apart}
use Rattle.bound_algebra.proofs.modules.left_matrices_of_paths.Goals as goal

pub returns-clause-trivial : goal.returns-clause-trivial
returns-clause-trivial c = λ q Q X v. left_path_matrix-trivial Q X v

pub returns-clause-behind : goal.returns-clause-behind
returns-clause-behind c = λ q Q X v p a l r. left_path_matrix-behind Q X v p a l r

pub returns-clause-apart : goal.returns-clause-apart
returns-clause-apart c = λ q Q X v w p d. left_path_matrix-apart Q X v w p d
