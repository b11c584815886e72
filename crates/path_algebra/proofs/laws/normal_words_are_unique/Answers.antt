use Rattle.quiver_paths.specs.PathOrder.{IsSmaller}
use Rattle.quiver_paths.proofs.ListLemmas.{ascending_once}
use Rattle.quiver_paths.proofs.PathOrderLemmas.{IsSmaller-irreflexive, IsSmaller-asymmetric}
use Rattle.path_algebra.proofs.laws.normal_words_are_unique.Goals as goal

pub returns : goal.returns
returns c h a b x y =
    ascending_once IsSmaller IsSmaller-irreflexive IsSmaller-asymmetric a b x.ascending y.ascending (λ p m. y.all p (x.only p m)) (λ p m. x.all p (y.only p m))
