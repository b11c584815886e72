-- By factoring through a surjection; the size by rank and corank.
use Rattle.std.proofs.Common.{◌+◌, ap, sym, ◌∙◌}
use Rattle.linear_algebra.proofs.Dimension.{rank_is}
use Rattle.representations.specs.Kernel.{cokernel}
use Rattle.representations.proofs.Submodules.{projection_epi}
use Rattle.representations.proofs.Kernels.{cokernel_exact, cokernel_universal, through_cokernel, cokernel_size}
use Rattle.representations.proofs.constructions.cokernels.Goals as goal

pub returns-clause-surjective : goal.returns-clause-surjective
returns-clause-surjective c = λ q Q X Y f. projection_epi (cokernel f)

pub returns-clause-exact : goal.returns-clause-exact
returns-clause-exact c = λ q Q X Y f. cokernel_exact f

pub returns-clause-universal : goal.returns-clause-universal
returns-clause-universal c = λ q Q X Y Z f h e. cokernel_universal f h e

pub returns-clause-of_each : goal.returns-clause-of_each
returns-clause-of_each c = λ q Q X Y C Z f p e x h z. through_cokernel f p e x h z

pub returns-clause-size : goal.returns-clause-size
returns-clause-size c = λ q Q X Y C f p e x v F. ap (λ r. r + C.dim v) (sym (rank_is F)) ∙ cokernel_size f p e x v
