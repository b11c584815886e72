use Rattle.quiver_paths.proofs.PathLemmas.{concat_cancel_left, concat_cancel_right}
use Rattle.quiver_paths.proofs.laws.concatenation_cancels.Goals as goal

pub returns : goal.returns
returns c = record { before = concat_cancel_left; behind = concat_cancel_right }
