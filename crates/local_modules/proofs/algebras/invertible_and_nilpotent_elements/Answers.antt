use Rattle.local_modules.proofs.AlgebraLaws.{inverse_sides, unit_minus_nilpotent, nilpotent_no_unit, classify}
use Rattle.local_modules.proofs.algebras.invertible_and_nilpotent_elements.Goals as goal

pub returns-clause-one_sided : goal.returns-clause-one_sided
returns-clause-one_sided c = λ q A. inverse_sides A

pub returns-clause-one_minus_nilpotent : goal.returns-clause-one_minus_nilpotent
returns-clause-one_minus_nilpotent c = λ q A. unit_minus_nilpotent A

pub returns-clause-nilpotent_is_not_invertible : goal.returns-clause-nilpotent_is_not_invertible
returns-clause-nilpotent_is_not_invertible c = λ q A. nilpotent_no_unit A

pub returns-clause-kinds : goal.returns-clause-kinds
returns-clause-kinds c = λ q A. classify A
