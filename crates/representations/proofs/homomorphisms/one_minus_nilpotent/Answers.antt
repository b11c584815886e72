-- By the sum of the powers.
use Rattle.representations.proofs.Endomorphisms.{one_minus_nilpotent_hom}
use Rattle.representations.proofs.homomorphisms.one_minus_nilpotent.Goals as goal

pub returns : goal.returns
returns c = λ q Q X x n. one_minus_nilpotent_hom x n
