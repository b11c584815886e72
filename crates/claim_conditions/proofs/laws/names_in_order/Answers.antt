use Rattle.std.proofs.Common.{refl}
use Rattle.claim_conditions.proofs.laws.names_in_order.Goals as goal

pub returns-clause-objects : goal.returns-clause-objects
returns-clause-objects c = λ h modules maps. refl

pub returns-clause-module : goal.returns-clause-module
returns-clause-module c = refl

pub returns-clause-map : goal.returns-clause-map
returns-clause-map c = refl

pub returns-clause-hom : goal.returns-clause-hom
returns-clause-hom c = λ h a b rows. refl

pub returns-clause-kernel : goal.returns-clause-kernel
returns-clause-kernel c = λ h n a b f i. refl

pub returns-clause-cokernel : goal.returns-clause-cokernel
returns-clause-cokernel c = λ h n a b f p. refl

pub returns-clause-radical : goal.returns-clause-radical
returns-clause-radical c = λ h n a i. refl

pub returns-clause-resolution : goal.returns-clause-resolution
returns-clause-resolution c = λ h T a terms n. refl

pub returns-clause-ext : goal.returns-clause-ext
returns-clause-ext c = λ h T a b terms n rows. refl

pub returns-clause-local : goal.returns-clause-local
returns-clause-local c = λ h m basis ideal power residue. refl

pub returns-clause-decomposition : goal.returns-clause-decomposition
returns-clause-decomposition c = λ h a s parts to back. refl

pub returns-clause-tau : goal.returns-clause-tau
returns-clause-tau c = λ h T n a terms embedding. refl

pub returns-clause-transpose : goal.returns-clause-transpose
returns-clause-transpose c = λ h T n a terms projection. refl

pub returns-clause-taui : goal.returns-clause-taui
returns-clause-taui c = λ h T n a b terms projection. refl

pub returns-clause-almostsplit : goal.returns-clause-almostsplit
returns-clause-almostsplit c = λ h T n e a f g terms basis ideal s. refl
