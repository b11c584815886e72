use Rattle.module_types.proofs.Presentations.{part-at, theta-entry, theta-at, value_on-pairing}
use Rattle.module_types.proofs.laws.translates.functionals.Goals as goal

pub returns-clause-parts : goal.returns-clause-parts
returns-clause-parts c = λ q A T M t functional j i l. part-at T M t functional j i l

pub returns-clause-entries : goal.returns-clause-entries
returns-clause-entries c = λ q A T M t functional w r j i l m. theta-entry T M t functional w r j i l m

pub returns-clause-whole : goal.returns-clause-whole
returns-clause-whole c = λ q A T M t functional m w. theta-at T M t functional m w

pub returns-clause-values : goal.returns-clause-values
returns-clause-values c = λ q A T M t functional m c values x. value_on-pairing T M t functional m c values x
