use Rattle.std.proofs.Common.{refl}
use Rattle.report_types.proofs.laws.names_in_order.Goals as goal

pub returns-clause-basis : goal.returns-clause-basis
returns-clause-basis c = λ h T rs words steps rules. refl

pub returns-clause-no_objects : goal.returns-clause-no_objects
returns-clause-no_objects c = λ h rs r words steps rules. refl

pub returns-clause-objects : goal.returns-clause-objects
returns-clause-objects c = λ h rs r a b rows. refl

pub returns-clause-module_objects : goal.returns-clause-module_objects
returns-clause-module_objects c = λ h rs r m. refl

pub returns-clause-of_module : goal.returns-clause-of_module
returns-clause-of_module c = λ h T rs m. refl

pub returns-clause-of_hom : goal.returns-clause-of_hom
returns-clause-of_hom c = λ h T rs a b rows. refl

pub returns-clause-of_ext : goal.returns-clause-of_ext
returns-clause-of_ext c = λ h T rs n a b rows k. refl

pub returns-clause-of_local : goal.returns-clause-of_local
returns-clause-of_local c = λ h T rs m k ideal power residue. refl
