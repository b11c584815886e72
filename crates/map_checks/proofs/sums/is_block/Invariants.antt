use Rattle.map_checks.specs.BlockParts.{IsBlock}
use Rattle.map_checks.proofs.sums.is_block.Given as goal

abbrev pub invariant-loop-r : goal.invariant-loop-r
invariant-loop-r l = IsBlock l.s l.p l.i l.k l.r
