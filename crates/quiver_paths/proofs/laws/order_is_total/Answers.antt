use Rattle.quiver_paths.proofs.PathOrderLemmas.{IsSmaller-irreflexive, IsSmaller-trans, IsSmaller-total}
use Rattle.quiver_paths.proofs.laws.order_is_total.Goals as goal

pub returns : goal.returns
returns c = record { irreflexive = IsSmaller-irreflexive; transitive = IsSmaller-trans; total = IsSmaller-total }
