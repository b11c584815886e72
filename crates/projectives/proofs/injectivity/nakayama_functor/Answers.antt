-- From the rules of the pairing.
use Rattle.projectives.proofs.Transposed.{nakayama_is}
use Rattle.projectives.proofs.Nakayama.{nakayama-identity, nakayama-compose, nakayama-sum, nakayama-multiple, nakayama_full, nakayama_iso, nakayama_reflects_iso, nakayama_reflects_split_mono, nakayama_reflects_split_epi, nakayama-power}
use Rattle.projectives.proofs.injectivity.nakayama_functor.Goals as goal

pub returns-clause-dual_of_transposed : goal.returns-clause-dual_of_transposed
returns-clause-dual_of_transposed c = λ q A T k v h w d. nakayama_is T k v h w d

pub returns-clause-identities : goal.returns-clause-identities
returns-clause-identities c = λ q A T k v. nakayama-identity T k v

pub returns-clause-composites : goal.returns-clause-composites
returns-clause-composites c = λ q A T k v h w l x d e. nakayama-compose T k v h w l x d e

pub returns-clause-sums : goal.returns-clause-sums
returns-clause-sums c = λ q A T k v h w d e. nakayama-sum T k v h w d e

pub returns-clause-multiples : goal.returns-clause-multiples
returns-clause-multiples c = λ q A T k v h w c d. nakayama-multiple T k v h w c d

pub returns-clause-full_and_faithful : goal.returns-clause-full_and_faithful
returns-clause-full_and_faithful c = λ q A T k v h w s. nakayama_full T k v h w s

pub returns-clause-isomorphisms : goal.returns-clause-isomorphisms
returns-clause-isomorphisms c = λ q A T k v h w d i. nakayama_iso T k v h w d i

pub returns-clause-reflects_isomorphisms : goal.returns-clause-reflects_isomorphisms
returns-clause-reflects_isomorphisms c = λ q A T k v h w d i. nakayama_reflects_iso T k v h w d i

pub returns-clause-reflects_split_injections : goal.returns-clause-reflects_split_injections
returns-clause-reflects_split_injections c = λ q A T k v h w d i. nakayama_reflects_split_mono T k v h w d i

pub returns-clause-reflects_split_surjections : goal.returns-clause-reflects_split_surjections
returns-clause-reflects_split_surjections c = λ q A T k v h w d i. nakayama_reflects_split_epi T k v h w d i

pub returns-clause-powers : goal.returns-clause-powers
returns-clause-powers c = λ q A T k v d n. nakayama-power T k v d n
