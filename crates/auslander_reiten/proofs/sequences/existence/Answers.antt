-- From the data, for the presentation by canonical generators.
use Rattle.auslander_reiten.proofs.AlmostSplitSequences.{ends_or_projective, ends_not_projective}
use Rattle.auslander_reiten.proofs.sequences.existence.Goals as goal

pub returns-clause-either : goal.returns-clause-either
returns-clause-either c = λ q A T M N l. ends_or_projective T M N l

pub returns-clause-never_both : goal.returns-clause-never_both
returns-clause-never_both c = λ q A T M s p. ends_not_projective T M s p
