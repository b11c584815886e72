use Rattle.linear_algebra.proofs.Remainders.{remainder_tells}
use Rattle.linear_algebra.proofs.lists.remainder_tells.Goals as goal

pub returns : goal.returns
returns c = remainder_tells
