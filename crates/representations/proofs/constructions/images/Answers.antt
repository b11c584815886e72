-- By factoring through an injection.
use Rattle.std.proofs.Common.{sym, subst}
use Rattle.representations.specs.Submodule.{sub_rep}
use Rattle.representations.specs.Hom.{Hom}
use Rattle.representations.specs.Module.{IsEpi}
use Rattle.representations.specs.Kernel.{image}
use Rattle.representations.proofs.Kernels.{image_factor, image_factor_epi}
use Rattle.representations.proofs.constructions.images.Goals as goal

pub returns-clause-factor : goal.returns-clause-factor
returns-clause-factor c = λ q Q X Y f. image_factor f

pub returns-clause-surjective : goal.returns-clause-surjective
returns-clause-surjective c = λ q Q X Y f k e. subst (λ (k : Hom X (sub_rep (image f))). IsEpi k) (sym ((image_factor f).once k e)) (image_factor_epi f)
