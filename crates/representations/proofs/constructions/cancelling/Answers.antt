-- By one-sided inverses at each vertex.
use Rattle.representations.proofs.Factoring.{epi_cancels, mono_cancels}
use Rattle.representations.proofs.constructions.cancelling.Goals as goal

pub returns-clause-surjections : goal.returns-clause-surjections
returns-clause-surjections c = λ q Q X A Z g e k l d. epi_cancels g e k l d

pub returns-clause-injections : goal.returns-clause-injections
returns-clause-injections c = λ q Q X N Z i m k l d. mono_cancels i m k l d
