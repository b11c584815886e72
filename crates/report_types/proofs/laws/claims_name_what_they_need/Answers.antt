use Rattle.report_types.proofs.laws.claims_name_what_they_need.Goals as goal

pub returns-clause-ext : goal.returns-clause-ext
returns-clause-ext c = λ h T rs n a b rows k holds. holds.0.0

pub returns-clause-tau : goal.returns-clause-tau
returns-clause-tau c = λ h T rs n a k rows holds. holds.0.0

pub returns-clause-transpose : goal.returns-clause-transpose
returns-clause-transpose c = λ h T rs n a k rows holds. holds.0.0

pub returns-clause-taui : goal.returns-clause-taui
returns-clause-taui c = λ h T rs b n a k rows holds. holds.0.0

pub returns-clause-local : goal.returns-clause-local
returns-clause-local c = λ h T rs m k ideal power residue holds. holds.0

pub returns-clause-decomposition : goal.returns-clause-decomposition
returns-clause-decomposition c = λ h T rs a s f g parts holds. holds.0.0.local

pub returns-clause-almost_split : goal.returns-clause-almost_split
returns-clause-almost_split c = λ h T rs n e a f g k l phi left middle holds. holds.0.0.homs
