use Rattle.auslander_reiten.proofs.ClosedLists.{right_half}
use Rattle.auslander_reiten.proofs.closed_lists.right_almost_split.Goals as goal

pub returns : goal.returns
returns c = λ q A L E M f g. right_half f g
