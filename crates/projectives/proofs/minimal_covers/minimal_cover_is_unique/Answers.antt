-- By lifting each along the other: what is left of the identity goes into the radical.
use Rattle.projectives.proofs.CoverUnique.{covers_isomorphic}
use Rattle.projectives.proofs.minimal_covers.minimal_cover_is_unique.Goals as goal

pub returns : goal.returns
returns c = λ q A W B k l v u X M f g m n. covers_isomorphic A W B k l v u X M f g m n
