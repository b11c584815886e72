-- By the last arrow of a word, and the columns of the trivial words.
use Rattle.projectives.proofs.ProjectiveRadical.{radical_vanishes, vanishing_in_radical}
use Rattle.projectives.proofs.Generators.{generators_independent, generators_span}
use Rattle.projectives.proofs.minimal_covers.radical_of_projective.Goals as goal

pub returns-clause-vanishes : goal.returns-clause-vanishes
returns-clause-vanishes c = λ q A W B k v w x r. radical_vanishes A W B v k w x r

pub returns-clause-lies : goal.returns-clause-lies
returns-clause-lies c = λ q A W B k v w x z. vanishing_in_radical A W B v k w x z

pub returns-clause-independent : goal.returns-clause-independent
returns-clause-independent c = λ q A W B k v. generators_independent A W B k v

pub returns-clause-span : goal.returns-clause-span
returns-clause-span c = λ q A W B k v. generators_span A W B k v
