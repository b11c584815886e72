use Rattle.rep_arena.proofs.Rows.{HoldsRows}
use Rattle.rep_arena.proofs.storing.store_matrix.Given as goal

abbrev pub invariant-loop-i : goal.invariant-loop-i
invariant-loop-i l = HoldsRows l.matrix l.i l.entries.items
