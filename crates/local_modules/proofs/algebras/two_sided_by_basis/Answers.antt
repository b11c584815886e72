use Rattle.local_modules.proofs.ResidueRanks.{two_sided_by_basis}
use Rattle.local_modules.proofs.algebras.two_sided_by_basis.Goals as goal

pub returns : goal.returns
returns c = λ q A k I l r. two_sided_by_basis A I l r
