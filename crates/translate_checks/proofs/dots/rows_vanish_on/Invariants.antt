use Rattle.translate_checks.specs.Dots.{RowsVanishOn}
use Rattle.translate_checks.proofs.dots.rows_vanish_on.Given as goal

abbrev pub invariant-loop-c : goal.invariant-loop-c
invariant-loop-c l = RowsVanishOn l.field l.s l.a l.c
