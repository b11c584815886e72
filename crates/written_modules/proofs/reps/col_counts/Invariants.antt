use Rattle.script_answers.specs.Written.{columns_to}
use Rattle.written_modules.proofs.Counts.{AreCounts}
use Rattle.written_modules.proofs.reps.col_counts.Given as goal

abbrev pub invariant-loop-a : goal.invariant-loop-a
invariant-loop-a l = AreCounts (columns_to l.header l.dims) l.a l.counts.items
