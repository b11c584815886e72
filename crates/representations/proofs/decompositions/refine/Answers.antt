-- By joining orthogonal families.
use Rattle.representations.proofs.Biproducts.{refined, refined-count, refined_before, refined_within, refined_after}
use Rattle.representations.proofs.decompositions.refine.Goals as goal

pub returns : goal.returns
returns c = λ q Q X B i h C. (refined B i h C, refined-count B i h C, refined_before B i h C, refined_within B i h C, refined_after B i h C)
