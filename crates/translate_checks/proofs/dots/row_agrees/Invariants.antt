use Rattle.translate_checks.specs.Squares.{AgreeInRow}
use Rattle.translate_checks.proofs.dots.row_agrees.Given as goal

abbrev pub invariant-loop-c : goal.invariant-loop-c
invariant-loop-c l = AgreeInRow l.field l.values l.t l.s l.y l.j l.c
