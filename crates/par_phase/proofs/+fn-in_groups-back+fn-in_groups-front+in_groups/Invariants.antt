use Rattle.std.proofs.Common.{ℕ}
use Rattle.par_phase.proofs.+fn-in_groups-back+fn-in_groups-front+in_groups.Given as goal

abbrev pub decreases-back : goal.decreases-back
decreases-back g l = l.back_workers

abbrev pub decreases-front : goal.decreases-front
decreases-front g l = l.front_workers

abbrev pub decreases-in_groups : goal.decreases-in_groups
decreases-in_groups g l = l.workers
