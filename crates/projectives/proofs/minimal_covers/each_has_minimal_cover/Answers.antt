-- By the columns without pivot.
use Rattle.projectives.proofs.CanonicalCovers.{canonical_cover, canonical_cover_minimal}
use Rattle.projectives.proofs.KernelCovers.{canonical_cover_whole}
use Rattle.projectives.proofs.minimal_covers.each_has_minimal_cover.Goals as goal

pub returns : goal.returns
returns c = λ q A W B X M. (canonical_cover A W B X M, canonical_cover_minimal A W B X M, canonical_cover_whole A W B X M)
