-- The solutions of the equations of all arrows.
use Rattle.representations.proofs.HomSpace.{hom_basis, flat_injective, flat-sum, flat-multiple}
use Rattle.representations.proofs.homomorphisms.hom_space.Goals as goal

pub returns-clause-basis : goal.returns-clause-basis
returns-clause-basis c = λ q Q X Y. hom_basis X Y

pub returns-clause-determined : goal.returns-clause-determined
returns-clause-determined c = λ q Q X Y f g e. flat_injective X Y f g e

pub returns-clause-sums : goal.returns-clause-sums
returns-clause-sums c = λ q Q X Y f g. flat-sum X Y f g

pub returns-clause-multiples : goal.returns-clause-multiples
returns-clause-multiples c = λ q Q X Y c f. flat-multiple X Y c f
