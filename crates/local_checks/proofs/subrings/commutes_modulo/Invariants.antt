use Rattle.std.proofs.Common.{ℕ, ◌<◌, length}
use Rattle.linear_algebra.specs.Parts.{row}
use Rattle.claim_conditions.specs.LocalConditions.{families_of}
use Rattle.local_checks.specs.Families.{IsFamily, family_space}
use Rattle.local_checks.specs.Closures.{CommutesWith}
use Rattle.local_checks.proofs.subrings.commutes_modulo.Given as goal

abbrev pub invariant-loop-i : goal.invariant-loop-i
invariant-loop-i l = record {
  work : IsFamily l.fn.header l.fn.m l.work;
  other : IsFamily l.fn.header l.fn.m l.other;
  commutes : (i : ℕ) → i < l.i → CommutesWith (families_of l.fn.header l.fn.m) (family_space l.fn.header l.fn.m l.ring l.ring_pivots) (family_space l.fn.header l.fn.m l.fn.rows l.fn.pivots)
      (row i (family_space l.fn.header l.fn.m l.ring l.ring_pivots)) (length l.ring_pivots);
}
