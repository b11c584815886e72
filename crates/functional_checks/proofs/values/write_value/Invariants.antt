use Rattle.std.proofs.Common.{◌≡◌}
use Rattle.linear_algebra.specs.BlockFamilies.{total}
use Rattle.fp_linear.specs.Slices.{AreElements}
use Rattle.local_checks.specs.Families.{family}
use Rattle.functional_checks.specs.Values.{generator_dim, HoldsValue}
use Rattle.functional_checks.proofs.values.write_value.Given as goal

abbrev pub invariant-loop-j : goal.invariant-loop-j
invariant-loop-j l = record {
  from : l.from ≡ total l.j (generator_dim l.header l.m l.cover);
  elements : AreElements l.header.field l.value;
  value : HoldsValue l.header l.m l.cover l.functional (family l.header l.m l.element) l.j l.value;
}
