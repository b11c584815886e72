use Rattle.top_call.proofs.CheckedOnce.{checked_once}
use Rattle.top_call.proofs.laws.workers_change_no_answer.Goals as goal

pub returns : goal.returns
returns c = checked_once
