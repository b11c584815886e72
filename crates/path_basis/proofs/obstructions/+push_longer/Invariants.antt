use Rattle.std.proofs.Common.{◌+◌, All}
use Rattle.path_basis.specs.Completing.{IsObstruction}
use Rattle.path_basis.proofs.obstructions.+push_longer.Given as goal

abbrev pub decreases-push_longer : goal.decreases-push_longer
decreases-push_longer l = l.before + l.behind

abbrev pub invariant-loop-arrow : goal.invariant-loop-arrow
invariant-loop-arrow l = All (IsObstruction l.header) l.found.items
