-- By the generators, which are a basis modulo the radical, and Nakayama's lemma.
use Rattle.projectives.proofs.Covers.{minimal_of_independent, independent_of_minimal, spans_of_epi, epi_of_spans}
use Rattle.projectives.proofs.minimal_covers.cover_criterion.Goals as goal

pub returns-clause-onto : goal.returns-clause-onto
returns-clause-onto c = λ q A W B k v X M f s. epi_of_spans A W B k v X f M s

pub returns-clause-span : goal.returns-clause-span
returns-clause-span c = λ q A W B k v X f e. spans_of_epi A W B k v X f e

pub returns-clause-minimal : goal.returns-clause-minimal
returns-clause-minimal c = λ q A W B k v X f i. minimal_of_independent A W B k v X f i

pub returns-clause-independent : goal.returns-clause-independent
returns-clause-independent c = λ q A W B k v X f e m. independent_of_minimal A W B k v X f e m
