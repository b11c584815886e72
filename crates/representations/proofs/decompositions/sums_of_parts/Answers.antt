-- By the universal properties of sums.
use Rattle.representations.proofs.SumFamilies.{family_parts, family_parts-count, family_parts-part, from_family, sum_of_parts}
use Rattle.representations.proofs.decompositions.sums_of_parts.Goals as goal

pub returns-clause-decomposed : goal.returns-clause-decomposed
returns-clause-decomposed c = λ q Q k X. (family_parts k X, family_parts-count k X, family_parts-part k X)

pub returns-clause-composed : goal.returns-clause-composed
returns-clause-composed c = λ q Q Z B. (from_family B.count (λ i. (B.summand i).part) (λ i. (B.summand i).injection), sum_of_parts B)
