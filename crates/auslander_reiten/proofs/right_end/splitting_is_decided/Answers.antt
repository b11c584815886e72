-- By a linear equation.
use Rattle.auslander_reiten.proofs.Splitting.{split_epi_or_not, split_mono_or_not}
use Rattle.auslander_reiten.proofs.right_end.splitting_is_decided.Goals as goal

pub returns-clause-epimorphisms : goal.returns-clause-epimorphisms
returns-clause-epimorphisms c = λ q Q X M h. split_epi_or_not h

pub returns-clause-monomorphisms : goal.returns-clause-monomorphisms
returns-clause-monomorphisms c = λ q Q X M h. split_mono_or_not h
