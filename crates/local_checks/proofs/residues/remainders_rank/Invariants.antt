use Rattle.fp_linear.specs.Slices.{AreElements}
use Rattle.local_checks.specs.Families.{IsFamily, family_rows}
use Rattle.claim_conditions.specs.LocalConditions.{families_of}
use Rattle.local_checks.specs.Remainders.{AreRemaindersUpTo, power_and_multiple}
use Rattle.local_checks.proofs.residues.remainders_rank.Given as goal

abbrev pub invariant-loop-i : goal.invariant-loop-i
invariant-loop-i l = record {
  work : IsFamily l.fn.header l.fn.m l.work;
  elements : AreElements l.fn.header.field l.rest;
  remainders : AreRemaindersUpTo l.fn.header l.fn.m l.fn.rows l.fn.pivots (power_and_multiple (families_of l.fn.header l.fn.m) (family_rows l.fn.header l.fn.m l.fn.count l.ring) l.factor) (family_rows l.fn.header l.fn.m l.fn.count l.rest) l.i;
}
