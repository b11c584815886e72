use Rattle.std.specs.Prelude.{length, take}
use Rattle.row_spaces.specs.FreeColumns.{IsFunctionalSoFar}
use Rattle.row_spaces.proofs.orthogonal.write_functional.Given as goal

abbrev pub invariant-loop-i : goal.invariant-loop-i
invariant-loop-i l = IsFunctionalSoFar l.matrix.field l.matrix.col_count l.column l.i (take (length l.pivots) l.matrix.rows) l.functional
