use Rattle.map_checks.specs.BlockParts.{IsBlockRow}
use Rattle.map_checks.proofs.sums.is_block_row.Given as goal

abbrev pub invariant-loop-j : goal.invariant-loop-j
invariant-loop-j l = IsBlockRow l.s l.p l.i l.k l.r l.j
