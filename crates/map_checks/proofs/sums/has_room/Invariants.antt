use Rattle.map_checks.specs.BlockParts.{HasRoom}
use Rattle.map_checks.proofs.sums.has_room.Given as goal

abbrev pub invariant-loop-v : goal.invariant-loop-v
invariant-loop-v l = HasRoom l.s l.part l.starts l.v
