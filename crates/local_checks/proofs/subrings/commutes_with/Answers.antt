use Rattle.std.proofs.Common.{subst, sym}
use Rattle.std.specs.Prelude.{length}
use Rattle.local_modules.specs.Algebra.{Element}
use Rattle.local_modules.specs.Ideal.{IsCongruent}
use Rattle.claim_conditions.specs.LocalConditions.{families_of}
use Rattle.local_checks.specs.Families.{family, family_space}
use Rattle.local_checks.proofs.Closures.{lent_row}
use Rattle.local_checks.proofs.ClosedSpaces.{commutes_more}
use Rattle.local_checks.proofs.subrings.commutes_with.Goals as goal

pub returns-then-not-commute-clause-commutes : goal.returns-then-not-commute-clause-commutes
returns-then-not-commute-clause-commutes c =
    let h = c.args.header.now in let m = c.args.m.now in
    let e = lent_row h.field (length c.args.ring_pivots.now) (families_of h m).size c.loop-j.j (length c.args.left.now) c.args.ring.now c.requires.ring.elements c.requires.ring.count c.loop-j-test.true c.requires.left.count in
    λ k. c.if-not-commute.ensures.commute (subst (λ (z : Element (families_of h m)). IsCongruent (family_space h m c.args.rows.now c.args.pivots.now) ((families_of h m).product (family h m c.args.left.now) z)
    ((families_of h m).product z (family h m c.args.left.now))) (sym e) (k c.loop-j.j c.loop-j-test.true))

pub loop-j-preserved : goal.loop-j-preserved
loop-j-preserved c =
    let h = c.args.header.now in let m = c.args.m.now in
    let e = lent_row h.field (length c.args.ring_pivots.now) (families_of h m).size c.loop-j.j (length c.args.left.now) c.args.ring.now c.requires.ring.elements c.requires.ring.count c.loop-j-test.true c.requires.left.count in
    record {
      work = c.commute.ensures.work;
      other = c.commute.ensures.other;
      commutes = commutes_more (families_of h m) (family_space h m c.args.ring.now c.args.ring_pivots.now) (family_space h m c.args.rows.now c.args.pivots.now) (family h m c.args.left.now) _ c.loop-j.j e
          c.loop-j.invariant.commutes c.if-not-commute.ensures.commute;
    }
