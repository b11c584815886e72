use Rattle.std.proofs.Common.{length, sym, subst}
use Rattle.linear_algebra.specs.Matrix.{◌·◌}
use Rattle.linear_algebra.specs.Rank.{IsInSpan}
use Rattle.linear_algebra.specs.Typed.{as_row}
use Rattle.linear_algebra.proofs.Solving.{in_span_mul, in_span_trans}
use Rattle.local_checks.specs.Families.{family_space, family_rows}
use Rattle.residue_checks.proofs.Combinations.{combination_of}
use Rattle.residue_checks.proofs.walks.is_zero_or_unit_at.Goals as goal

pub is_zero_or_unit-requires-clause-member : goal.is_zero_or_unit-requires-clause-member
is_zero_or_unit-requires-clause-member c =
    let h = c.args.header.now in let m = c.args.m.now in
    let e = combination_of h m c.args.digits.now c.args.some.now c.args.y.now c.multiply_row.new.out c.requires.y c.requires.some_elements c.multiply_row.ensures.product in
    subst (IsInSpan (family_space h m c.args.ring.now c.args.ring_pivots.now)) (sym e)
    (in_span_trans (family_space h m c.args.ring.now c.args.ring_pivots.now) (family_rows h m (length c.args.digits.now) c.args.some.now) (as_row h.field (length c.args.digits.now) c.args.digits.now · family_rows h m (length c.args.digits.now) c.args.some.now)
    c.requires.inside (in_span_mul (family_rows h m (length c.args.digits.now) c.args.some.now) (as_row h.field (length c.args.digits.now) c.args.digits.now)))

pub returns-clause-decided : goal.returns-clause-decided
returns-clause-decided c =
    let h = c.args.header.now in let m = c.args.m.now in
    let e = combination_of h m c.args.digits.now c.args.some.now c.args.y.now c.multiply_row.new.out c.requires.y c.requires.some_elements c.multiply_row.ensures.product in
    rw e at c.is_zero_or_unit.ensures.decided
