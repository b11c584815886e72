use Rattle.bound_algebra.proofs.ModulesByTerms.{terms_of_left_module, left_module_of_terms}
use Rattle.bound_algebra.proofs.modules.left_modules_by_terms.Goals as goal

pub returns-clause-necessary : goal.returns-clause-necessary
returns-clause-necessary c = λ h ok X M. terms_of_left_module h X ok M

pub returns-clause-sufficient : goal.returns-clause-sufficient
returns-clause-sufficient c = λ h ok X d. left_module_of_terms h X ok d
