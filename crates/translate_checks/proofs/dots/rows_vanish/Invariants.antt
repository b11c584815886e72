use Rattle.translate_checks.specs.Dots.{RowsVanish}
use Rattle.translate_checks.proofs.dots.rows_vanish.Given as goal

abbrev pub invariant-loop-r : goal.invariant-loop-r
invariant-loop-r l = RowsVanish l.field l.a l.s l.start l.r
