use Rattle.script_answers.specs.Written.{line_names}
use Rattle.written_modules.proofs.Fitting.{DifferBelow}
use Rattle.written_modules.proofs.shapes.are_different.Given as goal

abbrev pub invariant-loop-j : goal.invariant-loop-j
invariant-loop-j l = DifferBelow (line_names l.lines) l.j
