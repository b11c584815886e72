use Rattle.std.proofs.Common.{◌≡◌, drop}
use Rattle.script_answers.specs.FirstTests.{are_among}
use Rattle.script_answers.specs.Written.{line_names}
use Rattle.written_modules.proofs.names.names_among.Given as goal

abbrev pub invariant-loop-j : goal.invariant-loop-j
invariant-loop-j l = are_among l.known (line_names l.lines) ≡ are_among l.known (drop l.j (line_names l.lines))
