use Rattle.script_answers.specs.Written.{rows_from}
use Rattle.written_modules.proofs.Counts.{AreCounts}
use Rattle.written_modules.proofs.reps.row_counts.Given as goal

abbrev pub invariant-loop-a : goal.invariant-loop-a
invariant-loop-a l = AreCounts (rows_from l.header l.dims) l.a l.counts.items
