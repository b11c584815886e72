-- By the canonical cover of the kernel and its inclusion.
use Rattle.representations.specs.Submodule.{sub_rep}
use Rattle.projectives.specs.Canonical.{canonical_vertices}
use Rattle.projectives.specs.ReducedSubmodule.{reduced_kernel}
use Rattle.projectives.proofs.CanonicalCovers.{cover_of, cover_of_canonical, canonical_covers}
use Rattle.projectives.proofs.Resolutions.{covers_exact}
use Rattle.projectives.proofs.minimal_resolutions.resolution_step.Goals as goal

pub returns-clause-exists : goal.returns-clause-exists
returns-clause-exists c = λ q A W B X Y M d. (canonical_vertices (sub_rep (reduced_kernel d)), cover_of A W B X M (reduced_kernel d), cover_of_canonical A W B X M (reduced_kernel d))

pub returns-clause-exact : goal.returns-clause-exact
returns-clause-exact c = λ q A W B X Y M d vs f h. covers_exact A W B X Y d vs f (canonical_covers A W B X M (reduced_kernel d) vs f h)

pub returns-clause-minimal : goal.returns-clause-minimal
returns-clause-minimal c = λ q A W B X Y M d vs f h. (canonical_covers A W B X M (reduced_kernel d) vs f h).minimal
