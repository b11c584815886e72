use Rattle.std.proofs.Common.{◌≡◌, drop}
use Rattle.std.specs.Prelude.{slice_index}
use Rattle.script_answers.specs.Written.{line_fits}
use Rattle.written_modules.proofs.shapes.line_fits.Given as goal

abbrev pub invariant-loop-i : goal.invariant-loop-i
invariant-loop-i l = line_fits (slice_index l.rows) (slice_index l.cols) l.line 0 l.names ≡ line_fits (slice_index l.rows) (slice_index l.cols) l.line l.i (drop l.i l.names)
