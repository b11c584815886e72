use Rattle.script_answers.specs.Written.{line_names}
use Rattle.written_modules.proofs.Fitting.{NamesOtherThan}
use Rattle.written_modules.proofs.shapes.is_named_before.Given as goal

abbrev pub invariant-loop-i : goal.invariant-loop-i
invariant-loop-i l = NamesOtherThan l.name (line_names l.lines) l.i
