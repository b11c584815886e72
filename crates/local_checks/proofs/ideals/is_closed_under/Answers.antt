use Rattle.std.proofs.Common.{subst, sym}
use Rattle.std.specs.Prelude.{length}
use Rattle.claim_conditions.specs.LocalConditions.{families_of}
use Rattle.local_checks.specs.Families.{family, family_space}
use Rattle.local_checks.specs.Closures.{IsClosedAt}
use Rattle.local_checks.proofs.Closures.{lent_row, closed_more}
use Rattle.local_checks.proofs.ideals.is_closed_under.Goals as goal

pub returns-then-not-is_closed_at-clause-closed : goal.returns-then-not-is_closed_at-clause-closed
returns-then-not-is_closed_at-clause-closed c =
    let h = c.args.header.now in let m = c.args.m.now in
    let e = lent_row h.field (length c.args.pivots.now) (families_of h m).size c.loop-j.j (length c.args.left.now) c.args.rows.now c.requires.space.elements c.requires.space.count c.loop-j-test.true c.requires.left.count in
    λ k. c.if-not-is_closed_at.ensures.closed (subst (IsClosedAt (families_of h m) (family_space h m c.args.rows.now c.args.pivots.now) (family h m c.args.left.now)) (sym e) (k c.loop-j.j c.loop-j-test.true))

pub loop-j-preserved : goal.loop-j-preserved
loop-j-preserved c =
    let h = c.args.header.now in let m = c.args.m.now in
    let e = lent_row h.field (length c.args.pivots.now) (families_of h m).size c.loop-j.j (length c.args.left.now) c.args.rows.now c.requires.space.elements c.requires.space.count c.loop-j-test.true c.requires.left.count in
    record {
      work = c.is_closed_at.ensures.work;
      closed = closed_more (families_of h m) (family_space h m c.args.rows.now c.args.pivots.now) (family h m c.args.left.now) _ c.loop-j.j e c.loop-j.invariant.closed c.if-not-is_closed_at.ensures.closed;
    }
