-- The normal form of a path has words with its ends alone.
use Rattle.bound_algebra.proofs.FormsBetween.{behind_congruent, before_congruent}
use Rattle.bound_algebra.proofs.words.words_and_arrows.Goals as goal

pub returns-clause-behind : goal.returns-clause-behind
returns-clause-behind c = λ h ok words n v a i l. behind_congruent h ok words n v a i l

pub returns-clause-before : goal.returns-clause-before
returns-clause-before c = λ h ok words n v a i l. before_congruent h ok words n v a i l
