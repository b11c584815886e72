use Rattle.std.proofs.Common.{ℕ, inl, inr, arith, subst, sym}
use Rattle.std.proofs.lemmas.Bool.{cases_eq}
use Rattle.std.specs.Prelude.{length}
use Rattle.linear_algebra.specs.Parts.{row}
use Rattle.local_modules.specs.Algebra.{Element}
use Rattle.claim_conditions.specs.LocalConditions.{families_of}
use Rattle.local_checks.specs.Families.{family_space}
use Rattle.local_checks.specs.Closures.{CommutesWith}
use Rattle.local_checks.proofs.Closures.{lent_row}
use Rattle.local_checks.proofs.ClosedSpaces.{commutes_of_rows, rows_of_commutes}
use Rattle.local_checks.proofs.subrings.commutes_modulo.Goals as goal

pub returns-then-not-commutes_with-clause-commutes : goal.returns-then-not-commutes_with-clause-commutes
returns-then-not-commutes_with-clause-commutes c =
    let h = c.args.header.now in let m = c.args.m.now in
    let R = family_space h m c.args.ring.now c.args.ring_pivots.now in
    let e = lent_row h.field (length c.args.ring_pivots.now) (families_of h m).size c.loop-i.i (length c.args.work.now) c.args.ring.now c.requires.ring.elements c.requires.ring.count c.loop-i-test.true c.requires.work.count in
    λ k. c.if-not-commutes_with.ensures.commutes (subst (λ (x : Element (families_of h m)). CommutesWith (families_of h m) R (family_space h m c.args.rows.now c.args.pivots.now) x (length c.args.ring_pivots.now)) (sym e)
    (rows_of_commutes (families_of h m) R (family_space h m c.args.rows.now c.args.pivots.now) k c.loop-i.i c.loop-i-test.true))

pub loop-i-preserved : goal.loop-i-preserved
loop-i-preserved c =
    let h = c.args.header.now in let m = c.args.m.now in
    let R = family_space h m c.args.ring.now c.args.ring_pivots.now in
    let S = family_space h m c.args.rows.now c.args.pivots.now in
    let e = lent_row h.field (length c.args.ring_pivots.now) (families_of h m).size c.loop-i.i (length c.args.work.now) c.args.ring.now c.requires.ring.elements c.requires.ring.count c.loop-i-test.true c.requires.work.count in
    let here : CommutesWith (families_of h m) R S (row c.loop-i.i R) (length c.args.ring_pivots.now) =
    subst (λ (x : Element (families_of h m)). CommutesWith (families_of h m) R S x (length c.args.ring_pivots.now)) e c.if-not-commutes_with.ensures.commutes in
    record {
      work = c.commutes_with.ensures.work;
      other = c.commutes_with.ensures.other;
      commutes = λ i l. elim (cases_eq i c.loop-i.i) [
        | inl d ↦ subst (λ (i : ℕ). CommutesWith (families_of h m) R S (row i R) (length c.args.ring_pivots.now)) (sym d) here
        | inr o ↦ c.loop-i.invariant.commutes i (omega (arith, l, o))
      ];
    }

pub returns-clause-commutes : goal.returns-clause-commutes
returns-clause-commutes c =
    let h = c.args.header.now in let m = c.args.m.now in
    commutes_of_rows (families_of h m) (family_space h m c.args.ring.now c.args.ring_pivots.now) (family_space h m c.args.rows.now c.args.pivots.now)
    (λ i l. c.loop-i.invariant.commutes i (omega (arith, l, c.loop-i-test.false)))
