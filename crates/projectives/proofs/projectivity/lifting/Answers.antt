-- By choosing rows over the values of the generators.
use Rattle.projectives.proofs.Families.{lift, projectives_lift}
use Rattle.projectives.proofs.projectivity.lifting.Goals as goal

pub returns-clause-where_reached : goal.returns-clause-where_reached
returns-clause-where_reached c = λ q A W B k v Y Z N L f u s. lift A W B k v Y Z N L f u s

pub returns-clause-along_surjections : goal.returns-clause-along_surjections
returns-clause-along_surjections c = λ q A W B k v Y Z N L f e u. projectives_lift A W B k v Y Z N L f e u
