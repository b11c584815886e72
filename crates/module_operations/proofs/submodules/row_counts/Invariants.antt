use Rattle.std.proofs.Common.{◌≡◌, take}
use Rattle.module_operations.specs.VertexSpaces.{row_counts}
use Rattle.module_operations.proofs.submodules.row_counts.Given as goal

abbrev pub invariant-loop-i : goal.invariant-loop-i
invariant-loop-i l = l.counts.items ≡ row_counts (take l.i l.matrices)
