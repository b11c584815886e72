use Rattle.std.proofs.Common.{ℕ, ◌<◌, ◌+◌, get_or}
use Rattle.quiver_paths.specs.declared.Path.{Path}
use Rattle.quiver_paths.specs.PathOrder.{IsSmaller}
use Rattle.alg_table.proofs.words.words_ascend.Given as goal

abbrev pub invariant-loop-next : goal.invariant-loop-next
invariant-loop-next l = (j : ℕ) (d : Path) → j + 1 < l.next → IsSmaller (get_or l.words j d) (get_or l.words (j + 1) d)
