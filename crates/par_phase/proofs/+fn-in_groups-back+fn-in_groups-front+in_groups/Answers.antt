use Rattle.par_phase.proofs.Zips.{groups_all_zip, if_ok_at}
use Rattle.par_phase.proofs.+fn-in_groups-back+fn-in_groups-front+in_groups.Goals as goal

-- src/lib.rt:49:1
pub returns : goal.returns
returns g t c =
    let e = c.in_ok-answers.ensures in
    let front = if_ok_at _ _ e.0 e.2 c.join-front_answers.ensures.first in
    let back = if_ok_at _ _ e.1 e.3 c.join-front_answers.ensures.second in
    groups_all_zip _ _ _ _ _ _ _ _ c.in_ok-back_items.ensures.items c.in_ok-back_items.ensures.tail e.4 front back
