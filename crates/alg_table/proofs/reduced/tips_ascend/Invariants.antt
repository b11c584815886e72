use Rattle.std.proofs.Common.{ℕ, ◌<◌, ◌+◌, get_or}
use Rattle.quiver_paths.specs.PathOrder.{IsSmaller}
use Rattle.path_algebra.specs.declared.rules.Rule.{Rule}
use Rattle.alg_table.proofs.reduced.tips_ascend.Given as goal

abbrev pub invariant-loop-next : goal.invariant-loop-next
invariant-loop-next l = (j : ℕ) (d : Rule) → j + 1 < l.next → IsSmaller (get_or l.rules j d).tip (get_or l.rules (j + 1) d).tip
