-- At each vertex by a one-sided inverse; the matrices go with the arrows.
use Rattle.representations.proofs.Factoring.{through_epi, through_mono}
use Rattle.representations.proofs.constructions.factoring.Goals as goal

pub returns-clause-through_surjections : goal.returns-clause-through_surjections
returns-clause-through_surjections c = λ q Q X A Z g u e h. through_epi g u e h

pub returns-clause-through_injections : goal.returns-clause-through_injections
returns-clause-through_injections c = λ q Q X N Z i u m h. through_mono i u m h
