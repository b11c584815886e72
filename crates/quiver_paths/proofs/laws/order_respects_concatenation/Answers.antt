use Rattle.quiver_paths.proofs.PathOrderLemmas.{IsSmaller-concat_right, IsSmaller-concat_left}
use Rattle.quiver_paths.proofs.laws.order_respects_concatenation.Goals as goal

pub returns : goal.returns
returns c = record { behind = IsSmaller-concat_right; before = IsSmaller-concat_left }
