use Rattle.std.proofs.Common.{◌≡◌}
use Rattle.linear_algebra.specs.BlockFamilies.{total}
use Rattle.fp_linear.specs.Slices.{AreElements}
use Rattle.local_modules.specs.FamilyAlgebra.{families}
use Rattle.module_types.specs.Readings.{read}
use Rattle.module_checks.specs.Commuting.{block_sizes}
use Rattle.local_checks.specs.Families.{IsFamily, family_rows}
use Rattle.local_checks.specs.Images.{VanishUpTo}
use Rattle.local_checks.proofs.least_powers.is_least_power.Given as goal

abbrev pub invariant-loop-v : goal.invariant-loop-v
invariant-loop-v l = record {
  work : IsFamily l.fn.header l.fn.m l.work;
  next : AreElements l.fn.header.field l.next;
  from : l.from ≡ total l.v (block_sizes l.m.dims l.m.dims);
  vanish : VanishUpTo (families (read l.fn.header l.fn.m)) (family_rows l.fn.header l.fn.m l.fn.count l.fn.rows) l.v l.most;
}
