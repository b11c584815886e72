use Rattle.std.proofs.Common.{◌≡◌, map}
use Rattle.path_basis.specs.Pruning.{with_new_number}
use Rattle.path_basis.proofs.pruning.renumber_rules.Given as goal

abbrev pub invariant-loop-rule : goal.invariant-loop-rule
invariant-loop-rule l = l.renumbered.items ≡ map (with_new_number l.numbers) l.yielded
