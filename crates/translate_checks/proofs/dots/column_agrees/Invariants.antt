use Rattle.translate_checks.specs.Squares.{AgreeInColumn}
use Rattle.translate_checks.proofs.dots.column_agrees.Given as goal

abbrev pub invariant-loop-r : goal.invariant-loop-r
invariant-loop-r l = AgreeInColumn l.field l.x l.t l.s l.j l.values l.r
