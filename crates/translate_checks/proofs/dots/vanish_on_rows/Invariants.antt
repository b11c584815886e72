use Rattle.translate_checks.specs.Dots.{VanishOnRows}
use Rattle.translate_checks.proofs.dots.vanish_on_rows.Given as goal

abbrev pub invariant-loop-c : goal.invariant-loop-c
invariant-loop-c l = VanishOnRows l.field l.a l.s l.c
