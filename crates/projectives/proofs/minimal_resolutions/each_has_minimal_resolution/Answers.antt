-- By the iteration of the canonical cover of the kernel.
use Rattle.projectives.proofs.Resolutions.{canonical_minimal, canonical_resolution, canonical_resolution_canonical}
use Rattle.projectives.proofs.minimal_resolutions.each_has_minimal_resolution.Goals as goal

pub returns-clause-exists : goal.returns-clause-exists
returns-clause-exists c = λ q A W B M L. (canonical_resolution A W B M L, canonical_resolution_canonical A W B M L)

pub returns-clause-minimal : goal.returns-clause-minimal
returns-clause-minimal c = λ q A W B M L R k h. canonical_minimal A W B M L R k h
