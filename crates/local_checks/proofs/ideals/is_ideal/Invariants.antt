use Rattle.std.proofs.Common.{ℕ, ◌<◌, length}
use Rattle.linear_algebra.specs.Parts.{row}
use Rattle.claim_conditions.specs.LocalConditions.{families_of}
use Rattle.local_checks.specs.Families.{IsFamily, family_rows, family_space}
use Rattle.local_checks.specs.Closures.{IsClosedUnder}
use Rattle.local_checks.proofs.ideals.is_ideal.Given as goal

abbrev pub invariant-loop-i : goal.invariant-loop-i
invariant-loop-i l = record {
  work : IsFamily l.fn.header l.fn.m l.work;
  closed : (i : ℕ) → i < l.i → IsClosedUnder (families_of l.fn.header l.fn.m) (family_space l.fn.header l.fn.m l.fn.rows l.fn.pivots) (row i (family_rows l.fn.header l.fn.m l.fn.ring_count l.ring)) (length l.fn.pivots);
}
