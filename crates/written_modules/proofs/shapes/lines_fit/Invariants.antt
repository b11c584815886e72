use Rattle.std.proofs.Common.{◌≡◌, take, true}
use Rattle.std.specs.Prelude.{slice_index}
use Rattle.script_answers.specs.Written.{lines_fit}
use Rattle.written_modules.proofs.shapes.lines_fit.Given as goal

abbrev pub invariant-loop-j : goal.invariant-loop-j
invariant-loop-j l = lines_fit l.names (slice_index l.rows) (slice_index l.cols) (take l.j l.lines) ≡ true
