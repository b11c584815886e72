use Rattle.std.proofs.Common.{◌≡◌, ◌≤◌}
use Rattle.linear_algebra.specs.BlockFamilies.{total}
use Rattle.claim_blocks.specs.Sums.{dim_products}
use Rattle.claim_blocks.proofs.sums.unknown_count.Given as goal

abbrev pub invariant-loop-v : goal.invariant-loop-v
invariant-loop-v l = record {
  same : l.sum ≡ total l.v (dim_products l.header l.x l.y);
  small : l.sum ≤ 1024;
}
