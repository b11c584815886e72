use Rattle.std.specs.Prelude.{length, take}
use Rattle.row_spaces.specs.FreeColumns.{HasFunctionals}
use Rattle.row_spaces.proofs.orthogonal.write_functionals.Given as goal

abbrev pub invariant-loop-j : goal.invariant-loop-j
invariant-loop-j l = HasFunctionals l.matrix.field l.matrix.col_count l.j (take (length l.pivots) l.matrix.rows) l.free l.entries
