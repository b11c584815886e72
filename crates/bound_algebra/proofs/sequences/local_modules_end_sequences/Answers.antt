use Rattle.bound_algebra.proofs.LocalModules.{right_end_or_projective, right_end_not_projective}
use Rattle.bound_algebra.proofs.sequences.local_modules_end_sequences.Goals as goal

pub returns-clause-either : goal.returns-clause-either
returns-clause-either c = λ h ok words w M m l. right_end_or_projective h ok words w M m l

pub returns-clause-never_both : goal.returns-clause-never_both
returns-clause-never_both c = λ h ok words w M s p. right_end_not_projective h ok words w M s p
