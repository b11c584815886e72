use Rattle.bound_algebra.proofs.ModulesByTerms.{terms_of_module, module_of_terms}
use Rattle.bound_algebra.proofs.modules.right_modules_by_terms.Goals as goal

pub returns-clause-necessary : goal.returns-clause-necessary
returns-clause-necessary c = λ h ok X M. terms_of_module h ok X M

pub returns-clause-sufficient : goal.returns-clause-sufficient
returns-clause-sufficient c = λ h ok X d. module_of_terms h ok X d
