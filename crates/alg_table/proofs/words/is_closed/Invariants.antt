use Rattle.std.proofs.Common.{ℕ, ◌<◌}
use Rattle.alg_table.specs.WordChecks.{GoesOnBy}
use Rattle.alg_table.proofs.words.is_closed.Given as goal

abbrev pub invariant-loop-arrow : goal.invariant-loop-arrow
invariant-loop-arrow l = (a : ℕ) → a < l.arrow → GoesOnBy l.header l.words l.rules l.word a
