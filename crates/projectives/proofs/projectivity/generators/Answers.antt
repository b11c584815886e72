-- By the parts of the sum.
use Rattle.projectives.proofs.Families.{projectives_mod, from_rows, generator-from_rows, equal_on_generators}
use Rattle.projectives.proofs.projectivity.generators.Goals as goal

pub returns-clause-modules : goal.returns-clause-modules
returns-clause-modules c = λ q A W B k v. projectives_mod A W B k v

pub returns-clause-any_values : goal.returns-clause-any_values
returns-clause-any_values c = λ q A W B k v X M x. (from_rows A W B k v X M x, generator-from_rows A W B k v X M x)

pub returns-clause-determine : goal.returns-clause-determine
returns-clause-determine c = λ q A W B k v X M f g e. equal_on_generators A W B k v X M f g e
