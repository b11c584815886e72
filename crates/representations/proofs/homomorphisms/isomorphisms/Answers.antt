-- The inverse matrices go with the arrows.
use Rattle.representations.proofs.Endomorphisms.{iso_by_vertices, iso_of_both, iso_mono, iso_epi}
use Rattle.representations.proofs.homomorphisms.isomorphisms.Goals as goal

pub returns-clause-by_vertices : goal.returns-clause-by_vertices
returns-clause-by_vertices c = λ q Q X Y f i. iso_by_vertices f i

pub returns-clause-of_both : goal.returns-clause-of_both
returns-clause-of_both c = λ q Q X Y f m e. iso_of_both f m e

pub returns-clause-injective : goal.returns-clause-injective
returns-clause-injective c = λ q Q X Y f i. iso_mono f i

pub returns-clause-surjective : goal.returns-clause-surjective
returns-clause-surjective c = λ q Q X Y f i. iso_epi f i
