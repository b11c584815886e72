use Rattle.std.proofs.Common.{◌≡◌, take}
use Rattle.rep_arena.proofs.views.owned_matrices.Given as goal

abbrev pub invariant-loop-i : goal.invariant-loop-i
invariant-loop-i l = l.owned.items ≡ take l.i l.matrices
