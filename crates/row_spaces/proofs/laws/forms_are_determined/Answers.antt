use Rattle.row_spaces.proofs.FormsOnce.{row_form_once, kernel_once, quotient_once}
use Rattle.row_spaces.proofs.laws.forms_are_determined.Goals as goal

pub returns-clause-row_forms : goal.returns-clause-row_forms
returns-clause-row_forms c = λ q k l m n f a b r s. row_form_once f a b r s

pub returns-clause-kernels : goal.returns-clause-kernels
returns-clause-kernels c = λ q k l m n f a b r s. kernel_once f a b r s

pub returns-clause-quotients : goal.returns-clause-quotients
returns-clause-quotients c = λ q b d m n f g h r s. quotient_once f g h r s
