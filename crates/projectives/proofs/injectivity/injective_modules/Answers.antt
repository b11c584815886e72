-- By duality.
use Rattle.projectives.specs.Words.{projective}
use Rattle.projectives.specs.TwoSided.{other}
use Rattle.projectives.proofs.Turning.{dual_sum_family}
use Rattle.projectives.proofs.Nakayama.{injectives_mod}
use Rattle.projectives.proofs.injectivity.injective_modules.Goals as goal

pub returns-clause-sums : goal.returns-clause-sums
returns-clause-sums c = λ q A T k v. dual_sum_family k (λ j. projective (other T) (v j))

pub returns-clause-modules : goal.returns-clause-modules
returns-clause-modules c = λ q A T k v. injectives_mod T k v
