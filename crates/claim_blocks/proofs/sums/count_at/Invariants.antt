use Rattle.std.proofs.Common.{◌≡◌, ◌≤◌}
use Rattle.linear_algebra.specs.BlockFamilies.{total}
use Rattle.claim_blocks.specs.Sums.{dims_at}
use Rattle.claim_blocks.proofs.sums.count_at.Given as goal

abbrev pub invariant-loop-j : goal.invariant-loop-j
invariant-loop-j l = record {
  same : l.sum ≡ total l.j (dims_at l.header l.dims l.vertices);
  small : l.sum ≤ 1024;
}
