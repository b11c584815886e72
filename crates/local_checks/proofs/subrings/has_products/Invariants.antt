use Rattle.std.proofs.Common.{ℕ, ◌<◌, length}
use Rattle.linear_algebra.specs.Parts.{row}
use Rattle.claim_conditions.specs.LocalConditions.{families_of}
use Rattle.local_checks.specs.Families.{IsFamily, family_space}
use Rattle.local_checks.specs.Closures.{IsMultipliedBy}
use Rattle.local_checks.proofs.subrings.has_products.Given as goal

abbrev pub invariant-loop-i : goal.invariant-loop-i
invariant-loop-i l = record {
  work : IsFamily l.fn.header l.fn.m l.work;
  products : (i : ℕ) → i < l.i → IsMultipliedBy (families_of l.fn.header l.fn.m) (family_space l.fn.header l.fn.m l.rows l.pivots) (row i (family_space l.fn.header l.fn.m l.rows l.pivots)) (length l.pivots);
}
