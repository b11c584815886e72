use Rattle.claim_conditions.specs.LocalConditions.{families_of}
use Rattle.local_checks.specs.Families.{IsFamily, family, family_space}
use Rattle.local_checks.specs.Closures.{CommutesWith}
use Rattle.local_checks.proofs.subrings.commutes_with.Given as goal

abbrev pub invariant-loop-j : goal.invariant-loop-j
invariant-loop-j l = record {
  work : IsFamily l.fn.header l.fn.m l.work;
  other : IsFamily l.fn.header l.fn.m l.other;
  commutes : CommutesWith (families_of l.fn.header l.fn.m) (family_space l.fn.header l.fn.m l.ring l.ring_pivots) (family_space l.fn.header l.fn.m l.fn.rows l.fn.pivots) (family l.fn.header l.fn.m l.left) l.j;
}
