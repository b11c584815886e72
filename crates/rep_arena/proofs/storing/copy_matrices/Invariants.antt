use Rattle.std.proofs.Common.{◌≡◌, take}
use Rattle.rep_arena.proofs.storing.copy_matrices.Given as goal

abbrev pub invariant-loop-i : goal.invariant-loop-i
invariant-loop-i l = l.copies.items ≡ take l.i l.matrices
