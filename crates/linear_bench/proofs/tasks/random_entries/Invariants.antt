use Rattle.std.proofs.Common.{◌≡◌, length}
use Rattle.fp_linear.specs.Slices.{AreElements}
use Rattle.linear_bench.proofs.tasks.random_entries.Given as goal

abbrev pub invariant-loop : goal.invariant-loop
invariant-loop l = record { count : length l.entries.items ≡ l.counter; elements : AreElements l.field l.entries.items }
