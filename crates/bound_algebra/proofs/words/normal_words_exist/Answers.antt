-- By sifting the paths shorter than the bound.
use Rattle.bound_algebra.proofs.NormalWordsExist.{normal_words_exist}
use Rattle.bound_algebra.proofs.words.normal_words_exist.Goals as goal

pub returns : goal.returns
returns c = λ h ok. normal_words_exist h ok
