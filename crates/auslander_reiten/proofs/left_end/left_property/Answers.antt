-- By the pushout along the homomorphism.
use Rattle.auslander_reiten.proofs.LeftProperty.{extends_or_splits}
use Rattle.auslander_reiten.proofs.AlmostSplitSequences.{left_extends_or_splits}
use Rattle.auslander_reiten.proofs.left_end.left_property.Goals as goal

pub returns-clause-extends_or_splits : goal.returns-clause-extends_or_splits
returns-clause-extends_or_splits c = λ q A T L E M Y D F f g S N h. left_extends_or_splits T D F f g S Y N h

pub returns-clause-from_right_end : goal.returns-clause-from_right_end
returns-clause-from_right_end c = λ q A L E M f g e n l N each Y V h. extends_or_splits A f g e n l N each Y V h
