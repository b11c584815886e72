use Rattle.bound_algebra.proofs.TwoSidedBasis.{word_listed_is}
use Rattle.bound_algebra.proofs.words.words_by_place.Goals as goal

pub returns : goal.returns
returns c = λ h ok words n v w i l. word_listed_is h ok words n v w i l
