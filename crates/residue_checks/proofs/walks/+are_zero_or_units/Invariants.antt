use Rattle.std.proofs.Common.{ℕ, ◌<◌, ◌≡◌, ◌-◌}
use Rattle.std.specs.Prelude.{length, slice_index}
use Rattle.fp_linear.specs.Slices.{AreElements}
use Rattle.claim_conditions.specs.LocalConditions.{families_of}
use Rattle.local_checks.specs.Families.{IsFamily, family_space, family_rows}
use Rattle.residue_checks.specs.RingsModulo.{IsRoomFor}
use Rattle.residue_checks.specs.ZeroOrUnits.{AreZeroOrUnitsBelow}
use Rattle.residue_checks.proofs.walks.+are_zero_or_units.Given as goal

abbrev pub invariant-loop-c : goal.invariant-loop-c
invariant-loop-c l = record {
  digits : AreElements l.fn.header.field l.digits;
  before : (j : ℕ) → j < l.fn.place → slice_index l.digits j ≡ slice_index l.fn.digits j;
  y : IsFamily l.fn.header l.fn.m l.y;
  room : IsRoomFor l.fn.header l.fn.m (length l.fn.ring_pivots) l.rest l.rest_pivots;
  work : IsFamily l.fn.header l.fn.m l.work;
  below : AreZeroOrUnitsBelow (families_of l.fn.header l.fn.m) (family_space l.fn.header l.fn.m l.fn.ring l.fn.ring_pivots) (family_space l.fn.header l.fn.m l.fn.rows l.fn.pivots)
      (family_rows l.fn.header l.fn.m (length l.fn.digits) l.fn.some) l.fn.digits l.fn.place l.c;
}

abbrev pub decreases-are_zero_or_units : goal.decreases-are_zero_or_units
decreases-are_zero_or_units l = length l.digits.now - l.place
