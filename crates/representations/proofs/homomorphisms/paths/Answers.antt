-- By induction on the path.
use Rattle.representations.proofs.Paths.{along-hom, relation-hom}
use Rattle.representations.proofs.homomorphisms.paths.Goals as goal

pub returns-clause-along_paths : goal.returns-clause-along_paths
returns-clause-along_paths c = λ q Q X Y f v w p. along-hom f p

pub returns-clause-along_relations : goal.returns-clause-along_relations
returns-clause-along_relations c = λ q Q X Y f r. relation-hom f r
