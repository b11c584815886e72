use Rattle.module_types.proofs.Presentations.{pullback-equal, pullback-member}
use Rattle.module_types.proofs.laws.translates.pullbacks.Goals as goal

pub returns-clause-equal : goal.returns-clause-equal
returns-clause-equal c = λ q A T M p functional w y m e. pullback-equal T M p functional w y m e

pub returns-clause-member : goal.returns-clause-member
returns-clause-member c = λ q A T M p functional w y m e. pullback-member T M p functional w y m e
