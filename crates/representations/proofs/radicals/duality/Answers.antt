-- By transposing.
use Rattle.representations.proofs.Duals.{dual_dual, dual_dual-at, dual_compose, dual_identity, dual_sum, dual_multiple, along-reverse, IsMod-dual}
use Rattle.representations.proofs.radicals.duality.Goals as goal

pub returns-clause-involution : goal.returns-clause-involution
returns-clause-involution c = λ q Q X. dual_dual X

pub returns-clause-involution_on_maps : goal.returns-clause-involution_on_maps
returns-clause-involution_on_maps c = λ q Q X Y f v. dual_dual-at f v

pub returns-clause-turns_round : goal.returns-clause-turns_round
returns-clause-turns_round c = λ q Q X Y Z f g. dual_compose f g

pub returns-clause-identities : goal.returns-clause-identities
returns-clause-identities c = λ q Q X. dual_identity X

pub returns-clause-sums : goal.returns-clause-sums
returns-clause-sums c = λ q Q X Y f g. dual_sum f g

pub returns-clause-multiples : goal.returns-clause-multiples
returns-clause-multiples c = λ q Q X Y c f. dual_multiple c f

pub returns-clause-paths : goal.returns-clause-paths
returns-clause-paths c = λ q Q X v w p. along-reverse X p

pub returns-clause-modules : goal.returns-clause-modules
returns-clause-modules c = λ q A X M. IsMod-dual A X M
