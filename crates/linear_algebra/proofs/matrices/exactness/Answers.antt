-- Rank and nullity, and an inclusion of equal size.
use Rattle.linear_algebra.proofs.Exactness.{exact_by_ranks, ranks_of_exact}
use Rattle.linear_algebra.proofs.matrices.exactness.Goals as goal

pub returns-clause-by_ranks : goal.returns-clause-by_ranks
returns-clause-by_ranks c = λ q m n k f g a b e s x z. exact_by_ranks f g a b e s x z

pub returns-clause-ranks : goal.returns-clause-ranks
returns-clause-ranks c = λ q m n k f g a b e h. ranks_of_exact f g a b e h
