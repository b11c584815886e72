use Rattle.object_lines.specs.Reading.{TakesRows}
use Rattle.object_lines.proofs.matrices.take_rows.Given as goal

abbrev pub invariant-loop-i : goal.invariant-loop-i
invariant-loop-i l = TakesRows l.field l.i l.cols l.entries.items l.fn.tokens l.tokens
