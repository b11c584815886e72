use Rattle.std.proofs.Common.{take}
use Rattle.claim_blocks.specs.Counts.{AreCounts}
use Rattle.claim_blocks.proofs.counts.WordCounts.count.Given as goal

abbrev pub invariant-loop-i : goal.invariant-loop-i
invariant-loop-i l = AreCounts (take l.i l.words) l.side l.size l.counts.items
