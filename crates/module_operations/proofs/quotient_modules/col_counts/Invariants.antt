use Rattle.std.proofs.Common.{◌≡◌, take}
use Rattle.module_operations.specs.VertexSpaces.{col_counts}
use Rattle.module_operations.proofs.quotient_modules.col_counts.Given as goal

abbrev pub invariant-loop-i : goal.invariant-loop-i
invariant-loop-i l = l.counts.items ≡ col_counts (take l.i l.matrices)
