-- By the components of the values; the rest from the Nakayama functor.
use Rattle.projectives.proofs.Transposed.{transposed-coefficients, transposed_transposed}
use Rattle.projectives.proofs.Nakayama.{transposed-identity, transposed-compose, transposed-sum, transposed-multiple}
use Rattle.projectives.proofs.injectivity.transposition.Goals as goal

pub returns-clause-coefficients : goal.returns-clause-coefficients
returns-clause-coefficients c = λ q A T k v h w d i j l m. transposed-coefficients T k v h w d i j l m

pub returns-clause-involution : goal.returns-clause-involution
returns-clause-involution c = λ q A T k v h w d. transposed_transposed T k v h w d

pub returns-clause-identities : goal.returns-clause-identities
returns-clause-identities c = λ q A T k v. transposed-identity T k v

pub returns-clause-composites : goal.returns-clause-composites
returns-clause-composites c = λ q A T k v h w l x d e. transposed-compose T k v h w l x d e

pub returns-clause-sums : goal.returns-clause-sums
returns-clause-sums c = λ q A T k v h w d e. transposed-sum T k v h w d e

pub returns-clause-multiples : goal.returns-clause-multiples
returns-clause-multiples c = λ q A T k v h w c d. transposed-multiple T k v h w c d
