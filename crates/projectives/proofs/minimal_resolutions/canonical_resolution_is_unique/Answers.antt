-- Each place is the iteration's, by induction on the place.
use Rattle.projectives.proofs.Resolutions.{resolutions_equal}
use Rattle.projectives.proofs.minimal_resolutions.canonical_resolution_is_unique.Goals as goal

pub returns : goal.returns
returns c = λ q A W B M L R S k h g n l. resolutions_equal A W B M L R S k h g n l
