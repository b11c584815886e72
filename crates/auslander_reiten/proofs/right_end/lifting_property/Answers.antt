-- From the criterion, since M is local.
use Rattle.auslander_reiten.proofs.Lifting.{lifts_or_splits, right_not_split}
use Rattle.auslander_reiten.proofs.right_end.lifting_property.Goals as goal

pub returns-clause-lifts_or_splits : goal.returns-clause-lifts_or_splits
returns-clause-lifts_or_splits c = λ q A T L E M X D F f g S N h. lifts_or_splits T D F f g S N h

pub returns-clause-not_split : goal.returns-clause-not_split
returns-clause-not_split c = λ q A T L E M D F f g S s. right_not_split T D F f g S s
