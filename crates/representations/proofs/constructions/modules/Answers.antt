-- By cancelling.
use Rattle.representations.proofs.Paths.{IsMod-mono, IsMod-epi, IsMod-written}
use Rattle.representations.proofs.Submodules.{IsMod-sub, IsMod-quotient}
use Rattle.representations.proofs.Sums.{IsMod-sum}
use Rattle.representations.proofs.constructions.modules.Goals as goal

pub returns-clause-injections : goal.returns-clause-injections
returns-clause-injections c = λ q A X Y f m M. IsMod-mono A f m M

pub returns-clause-surjections : goal.returns-clause-surjections
returns-clause-surjections c = λ q A X Y f e M. IsMod-epi A f e M

pub returns-clause-submodules : goal.returns-clause-submodules
returns-clause-submodules c = λ q A X U M. IsMod-sub A U M

pub returns-clause-quotients : goal.returns-clause-quotients
returns-clause-quotients c = λ q A X U M. IsMod-quotient A U M

pub returns-clause-sums : goal.returns-clause-sums
returns-clause-sums c = λ q A X Y M N. IsMod-sum A X Y M N

pub returns-clause-written_relations : goal.returns-clause-written_relations
returns-clause-written_relations c = λ q A r same X M. IsMod-written A r same X M
