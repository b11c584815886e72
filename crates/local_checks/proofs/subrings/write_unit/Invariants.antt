use Rattle.std.proofs.Common.{◌≡◌}
use Rattle.linear_algebra.specs.BlockFamilies.{total}
use Rattle.module_checks.specs.Commuting.{block_sizes}
use Rattle.local_checks.specs.Families.{IsFamily}
use Rattle.local_checks.specs.Units.{AreUnits}
use Rattle.local_checks.proofs.subrings.write_unit.Given as goal

abbrev pub invariant-loop-v : goal.invariant-loop-v
invariant-loop-v l = record {
  out : IsFamily l.fn.header l.fn.m l.out;
  from : l.from ≡ total l.v (block_sizes l.m.dims l.m.dims);
  units : AreUnits l.m.dims l.v l.out;
}
