use Rattle.bound_algebra.proofs.LocalModules.{left_end_or_projective, left_end_not_projective}
use Rattle.bound_algebra.proofs.sequences.local_left_modules_end_sequences.Goals as goal

pub returns-clause-either : goal.returns-clause-either
returns-clause-either c = λ h ok words w M m l. left_end_or_projective h ok words w M m l

pub returns-clause-never_both : goal.returns-clause-never_both
returns-clause-never_both c = λ h ok words w M s p. left_end_not_projective h ok words w M s p
