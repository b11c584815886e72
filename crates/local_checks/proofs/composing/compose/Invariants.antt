use Rattle.std.proofs.Common.{◌≡◌}
use Rattle.linear_algebra.specs.BlockFamilies.{total}
use Rattle.local_checks.specs.Families.{IsFamily}
use Rattle.module_checks.specs.Commuting.{block_sizes}
use Rattle.local_checks.specs.Composites.{AreBlockProducts}
use Rattle.local_checks.proofs.composing.compose.Given as goal

abbrev pub invariant-loop-v : goal.invariant-loop-v
invariant-loop-v l = record {
  out : IsFamily l.fn.header l.fn.m l.out;
  from : l.from ≡ total l.v (block_sizes l.m.dims l.m.dims);
  blocks : AreBlockProducts l.header.field l.m.dims l.v l.left l.right l.out;
}
