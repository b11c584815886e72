-- The sum of the idempotents is the same.
use Rattle.representations.proofs.Biproducts.{permuted, permuted-count, permuted-summand}
use Rattle.representations.proofs.decompositions.permute.Goals as goal

pub returns : goal.returns
returns c = λ q Q X B s t b d e f. (permuted B s t b d e f, permuted-count B s t b d e f, permuted-summand B s t b d e f)
