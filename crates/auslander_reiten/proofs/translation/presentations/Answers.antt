-- By the resolution with canonical generators.
use Rattle.std.proofs.Common.{length}
use Rattle.projectives.specs.CanonicalCover.{vertex_in}
use Rattle.auslander_reiten.proofs.AlmostSplitSequences.{resolution, minimal_presentation, presented_or_projective, presented_not_projective}
use Rattle.auslander_reiten.proofs.TranslateUnique.{presentations_isomorphic}
use Rattle.auslander_reiten.proofs.translation.presentations.Goals as goal

pub returns-clause-exists : goal.returns-clause-exists
returns-clause-exists c = λ q A T M N.
    let R = resolution T M N in
    (length (R.term 1), vertex_in (R.term 1), length (R.term 0), vertex_in (R.term 0), R.differential 1, R.differential 0, minimal_presentation T M N)

pub returns-clause-local : goal.returns-clause-local
returns-clause-local c = λ q A T M N l. presented_or_projective T M N l

pub returns-clause-never_both : goal.returns-clause-never_both
returns-clause-never_both c = λ q A T M D p. presented_not_projective T D p

pub returns-clause-once : goal.returns-clause-once
returns-clause-once f = λ q A T k v h u l w m z M d c e b p r. presentations_isomorphic T k v h u l w m z M d c e b p r
