use Rattle.path_algebra.proofs.AllRows.{normal_words_are_basis}
use Rattle.path_algebra.proofs.laws.normal_words_are_a_basis.Goals as goal

pub returns : goal.returns
returns c = normal_words_are_basis
