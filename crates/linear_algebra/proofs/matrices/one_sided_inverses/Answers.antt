-- By a rank factorisation.
use Rattle.linear_algebra.proofs.Solving.{injective_right_inverse, right_inverse_injective, surjective_left_inverse, left_inverse_surjective}
use Rattle.linear_algebra.proofs.matrices.one_sided_inverses.Goals as goal

pub returns-clause-injective : goal.returns-clause-injective
returns-clause-injective c = λ q m n f h. injective_right_inverse f h

pub returns-clause-undone_on_the_right : goal.returns-clause-undone_on_the_right
returns-clause-undone_on_the_right c = λ q m n f i x e. right_inverse_injective f i x e

pub returns-clause-surjective : goal.returns-clause-surjective
returns-clause-surjective c = λ q m n f h. surjective_left_inverse f h

pub returns-clause-undone_on_the_left : goal.returns-clause-undone_on_the_left
returns-clause-undone_on_the_left c = λ q m n f i y. left_inverse_surjective f i y
