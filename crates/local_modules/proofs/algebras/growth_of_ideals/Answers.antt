use Rattle.local_modules.proofs.GeneratedIdeals.{rank_grows, generated_ideal, generated_power}
use Rattle.local_modules.proofs.algebras.growth_of_ideals.Goals as goal

pub returns-clause-exists : goal.returns-clause-exists
returns-clause-exists c = λ q A k I t x. generated_ideal A I t x

pub returns-clause-grows : goal.returns-clause-grows
returns-clause-grows c = λ q A k l I x J g n. rank_grows I J g.has_ideal x g.has_element n

pub returns-clause-power : goal.returns-clause-power
returns-clause-power c = λ q A k l I t x J g. generated_power A I t x J g
