-- By induction on the rows; the sizes by the size theorem.
use Rattle.linear_algebra.proofs.RankExists.{rank_factorisation}
use Rattle.linear_algebra.proofs.Dimension.{rank_unique, rank_le_rows, rank_le_columns}
use Rattle.linear_algebra.proofs.matrices.rank.Goals as goal

pub returns-clause-exists : goal.returns-clause-exists
returns-clause-exists c = λ q m n f. rank_factorisation f

pub returns-clause-unique : goal.returns-clause-unique
returns-clause-unique c = λ q m n f a b. rank_unique a b

pub returns-clause-at_most_rows : goal.returns-clause-at_most_rows
returns-clause-at_most_rows c = λ q m n f a. rank_le_rows a

pub returns-clause-at_most_columns : goal.returns-clause-at_most_columns
returns-clause-at_most_columns c = λ q m n f a. rank_le_columns a
