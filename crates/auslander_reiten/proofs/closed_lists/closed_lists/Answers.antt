use Rattle.auslander_reiten.proofs.ClosedLists.{closed_list_is_complete, listed_once}
use Rattle.auslander_reiten.proofs.closed_lists.closed_lists.Goals as goal

pub returns-clause-complete : goal.returns-clause-complete
returns-clause-complete c = λ q A T n Y. closed_list_is_complete T n Y

pub returns-clause-once : goal.returns-clause-once
returns-clause-once c = λ q A T n Y. listed_once T n Y
