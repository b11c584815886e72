use Rattle.local_modules.proofs.IdealPowers.{power_or_not, least_power}
use Rattle.local_modules.proofs.ResidueRing.{member_nilpotent}
use Rattle.local_modules.proofs.algebras.powers_of_ideals.Goals as goal

pub returns-clause-decided : goal.returns-clause-decided
returns-clause-decided c = λ q A k I. power_or_not A I

pub returns-clause-least : goal.returns-clause-least
returns-clause-least c = λ q A k I. least_power A I

pub returns-clause-nil : goal.returns-clause-nil
returns-clause-nil c = λ q A k I. member_nilpotent A I
