use Rattle.quiver_paths.proofs.PathOrderLemmas.{ComesBefore-from_smaller, smaller_from_comes_before}
use Rattle.quiver_paths.proofs.laws.smaller_by_cases.Goals as goal

pub returns : goal.returns
returns c = λ p q. (ComesBefore-from_smaller p q, smaller_from_comes_before p q)
