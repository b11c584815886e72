use Rattle.std.proofs.Common.{length, take}
use Rattle.path_basis.specs.Pruning.{AreMarked}
use Rattle.path_basis.proofs.pruning.mark_rules.Given as goal

abbrev pub invariant-loop-rule : goal.invariant-loop-rule
invariant-loop-rule l = AreMarked l.steps (take l.rule-index l.rules) l.marks.items (length l.steps)
