use Rattle.std.proofs.Common.{◌≡◌}
use Rattle.linear_algebra.specs.BlockFamilies.{total}
use Rattle.module_checks.specs.Commuting.{block_sizes}
use Rattle.functional_checks.proofs.values.block_at.Given as goal

abbrev pub invariant-loop-w : goal.invariant-loop-w
invariant-loop-w l = record {
  from : l.from ≡ total l.w (block_sizes l.m.dims l.m.dims);
}
