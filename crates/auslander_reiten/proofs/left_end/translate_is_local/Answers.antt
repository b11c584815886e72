-- By the companions of an endomorphism.
use Rattle.auslander_reiten.proofs.Companions.{translate_local}
use Rattle.auslander_reiten.proofs.left_end.translate_is_local.Goals as goal

pub returns : goal.returns
returns c = λ q A T L M D i t. translate_local T D i t
