use Rattle.std.proofs.Common.{◌≡◌, take}
use Rattle.rep_arena.proofs.storing.store_matrices.Given as goal

abbrev pub invariant-loop-i : goal.invariant-loop-i
invariant-loop-i l = l.stored.items ≡ take l.i l.matrices
