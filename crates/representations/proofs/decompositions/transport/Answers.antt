-- By composing.
use Rattle.representations.proofs.Biproducts.{transported, transported-summand, transported-count}
use Rattle.representations.proofs.decompositions.transport.Goals as goal

pub returns : goal.returns
returns c = λ q Q X Y f i B. (transported f i B, transported-count f i B, transported-summand f i B)
