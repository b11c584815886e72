use Rattle.std.proofs.Common.{◌≡◌}
use Rattle.local_modules.specs.Algebra.{power_in}
use Rattle.claim_conditions.specs.LocalConditions.{families_of}
use Rattle.local_checks.specs.Families.{IsFamily, family}
use Rattle.local_checks.proofs.residues.write_power.Given as goal

abbrev pub invariant-loop-k : goal.invariant-loop-k
invariant-loop-k l = record {
  out : IsFamily l.fn.header l.fn.m l.out;
  work : IsFamily l.fn.header l.fn.m l.work;
  power : family l.fn.header l.fn.m l.out ≡ power_in (families_of l.fn.header l.fn.m) (family l.fn.header l.fn.m l.x) l.k;
}
