-- From the pullback, and because M is not projective.
use Rattle.auslander_reiten.proofs.Lifting.{sequence_exact}
use Rattle.auslander_reiten.proofs.AlmostSplitSequences.{left_mod, middle_mod, middle_size}
use Rattle.auslander_reiten.proofs.right_end.exactness.Goals as goal

pub returns-clause-exact : goal.returns-clause-exact
returns-clause-exact c = λ q A T L E M D F f g S. sequence_exact T D F f g S

pub returns-clause-left_module : goal.returns-clause-left_module
returns-clause-left_module c = λ q A T L E M D F f g S. left_mod T D F f g S

pub returns-clause-middle_module : goal.returns-clause-middle_module
returns-clause-middle_module c = λ q A T L E M D F f g S. middle_mod T D F f g S

pub returns-clause-sizes : goal.returns-clause-sizes
returns-clause-sizes c = λ q Q L E M f g e w. middle_size f g e w
