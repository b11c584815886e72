use Rattle.std.proofs.Common.{◌≡◌}
use Rattle.linear_algebra.specs.BlockFamilies.{total}
use Rattle.module_checks.specs.Commuting.{block_sizes}
use Rattle.hom_space.proofs.counting.products_summed.Given as goal

abbrev pub invariant-loop-v : goal.invariant-loop-v
invariant-loop-v l = record {
  count : l.count ≡ total l.v (block_sizes l.a l.b);
}
