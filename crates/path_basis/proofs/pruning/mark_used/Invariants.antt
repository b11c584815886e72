use Rattle.std.proofs.Common.{◌-◌, length}
use Rattle.path_basis.specs.Pruning.{AreMarked}
use Rattle.path_basis.proofs.pruning.mark_used.Given as goal

abbrev pub invariant-loop-behind : goal.invariant-loop-behind
invariant-loop-behind l = AreMarked l.steps l.rules l.marks.items (length l.steps - l.behind)
