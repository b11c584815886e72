use Rattle.std.specs.Prelude.{length}
use Rattle.linear_algebra.specs.Rows.{rows_of}
use Rattle.fp_linear.specs.Elimination.{IsFunctionalUpTo}
use Rattle.fp_linear.proofs.separate.write_functional.Given as goal

abbrev pub invariant-loop-i : goal.invariant-loop-i
invariant-loop-i l = IsFunctionalUpTo l.field (length l.fn.functional) l.column l.i (rows_of (length l.pivots) (length l.fn.functional) l.rows) l.functional
