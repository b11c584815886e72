-- By factoring through an injection; the size by rank and nullity.
use Rattle.std.proofs.Common.{◌+◌, ap, sym, ◌∙◌}
use Rattle.linear_algebra.proofs.Dimension.{rank_is}
use Rattle.representations.specs.Kernel.{kernel}
use Rattle.representations.proofs.Submodules.{inclusion_mono}
use Rattle.representations.proofs.Kernels.{kernel_exact, kernel_universal, through_kernel, kernel_size}
use Rattle.representations.proofs.constructions.kernels.Goals as goal

pub returns-clause-injective : goal.returns-clause-injective
returns-clause-injective c = λ q Q X Y f. inclusion_mono (kernel f)

pub returns-clause-exact : goal.returns-clause-exact
returns-clause-exact c = λ q Q X Y f. kernel_exact f

pub returns-clause-universal : goal.returns-clause-universal
returns-clause-universal c = λ q Q W X Y f h e. kernel_universal f h e

pub returns-clause-of_each : goal.returns-clause-of_each
returns-clause-of_each c = λ q Q W N X Y i f m x h e. through_kernel i f m x h e

pub returns-clause-size : goal.returns-clause-size
returns-clause-size c = λ q Q N X Y i f m x v F. ap (λ r. N.dim v + r) (sym (rank_is F)) ∙ kernel_size i f m x v
