use Rattle.translate_checks.specs.Dots.{ColumnsVanish}
use Rattle.translate_checks.proofs.dots.columns_vanish.Given as goal

abbrev pub invariant-loop-j : goal.invariant-loop-j
invariant-loop-j l = ColumnsVanish l.field l.s l.start l.a l.j
