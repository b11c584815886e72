use Rattle.std.proofs.Common.{◌≡◌, ◌≤◌}
use Rattle.linear_algebra.specs.BlockFamilies.{total}
use Rattle.claim_blocks.specs.Counts.{entry_for}
use Rattle.claim_blocks.proofs.counts.WordCounts.dim_at.Given as goal

abbrev pub invariant-loop-j : goal.invariant-loop-j
invariant-loop-j l = (l.sum ≡ total l.j (entry_for l.self l.vertices l.vertex)) × (l.sum ≤ l.most)
