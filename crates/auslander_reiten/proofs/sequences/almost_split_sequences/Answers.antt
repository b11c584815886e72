-- From the laws of both ends.
use Rattle.auslander_reiten.proofs.AlmostSplitSequences.{almost_split}
use Rattle.auslander_reiten.proofs.sequences.almost_split_sequences.Goals as goal

pub returns : goal.returns
returns c = λ q A T L E M D F f g S. almost_split T D F f g S
