use Rattle.map_checks.specs.BlockParts.{AreEnds}
use Rattle.map_checks.proofs.sums.are_ends.Given as goal

abbrev pub invariant-loop-v : goal.invariant-loop-v
invariant-loop-v l = AreEnds l.s l.starts l.v
