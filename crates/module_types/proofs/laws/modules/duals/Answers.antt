use Rattle.module_types.proofs.Duals.{rep_of-dual_of, dual_of-at, dual_of-side, dual_of-twice, dual_of-shape, dual_of-module, module_of-dual, dual_over}
use Rattle.module_types.proofs.laws.modules.duals.Goals as goal

pub returns-clause-read : goal.returns-clause-read
returns-clause-read c = λ q Q m. rep_of-dual_of q Q m

pub returns-clause-entries : goal.returns-clause-entries
returns-clause-entries c = λ q Q m a i j. dual_of-at q Q m a i j

pub returns-clause-side : goal.returns-clause-side
returns-clause-side c = λ q Q m. dual_of-side q Q m

pub returns-clause-twice : goal.returns-clause-twice
returns-clause-twice c = λ q Q m s. dual_of-twice q Q m s

pub returns-clause-shape : goal.returns-clause-shape
returns-clause-shape c = λ q Q m s. dual_of-shape q Q m s

pub returns-clause-module : goal.returns-clause-module
returns-clause-module c = λ q A m h. dual_of-module A m h

pub returns-clause-back : goal.returns-clause-back
returns-clause-back c = λ q A m h. module_of-dual A m h

pub returns-clause-over : goal.returns-clause-over
returns-clause-over c = λ h m k. dual_over h m k
