use Rattle.std.proofs.Common.{ℕ, inl, inr, arith, subst, sym}
use Rattle.std.proofs.lemmas.Bool.{cases_eq}
use Rattle.std.specs.Prelude.{length}
use Rattle.linear_algebra.specs.Parts.{row}
use Rattle.local_modules.specs.Algebra.{Element}
use Rattle.claim_conditions.specs.LocalConditions.{families_of}
use Rattle.local_checks.specs.Families.{family_rows, family_space}
use Rattle.local_checks.specs.Closures.{IsClosedUnder}
use Rattle.local_checks.proofs.Closures.{lent_row, ideal_of_rows, rows_of_ideal}
use Rattle.local_checks.proofs.ideals.is_ideal.Goals as goal

pub returns-then-not-is_closed_under-clause-ideal : goal.returns-then-not-is_closed_under-clause-ideal
returns-then-not-is_closed_under-clause-ideal c =
    let h = c.args.header.now in let m = c.args.m.now in
    let e = lent_row h.field c.args.ring_count (families_of h m).size c.loop-i.i (length c.args.work.now) c.args.ring.now c.requires.ring_elements c.requires.ring_count c.loop-i-test.true c.requires.work.count in
    λ k. c.if-not-is_closed_under.ensures.closed (subst (λ (x : Element (families_of h m)). IsClosedUnder (families_of h m) (family_space h m c.args.rows.now c.args.pivots.now) x (length c.args.pivots.now)) (sym e)
    (rows_of_ideal (families_of h m) (family_space h m c.args.rows.now c.args.pivots.now) (family_rows h m c.args.ring_count c.args.ring.now) k c.loop-i.i c.loop-i-test.true))

pub loop-i-preserved : goal.loop-i-preserved
loop-i-preserved c =
    let h = c.args.header.now in let m = c.args.m.now in
    let e = lent_row h.field c.args.ring_count (families_of h m).size c.loop-i.i (length c.args.work.now) c.args.ring.now c.requires.ring_elements c.requires.ring_count c.loop-i-test.true c.requires.work.count in
    let closed : IsClosedUnder (families_of h m) (family_space h m c.args.rows.now c.args.pivots.now) (row c.loop-i.i (family_rows h m c.args.ring_count c.args.ring.now)) (length c.args.pivots.now) =
    subst (λ (x : Element (families_of h m)). IsClosedUnder (families_of h m) (family_space h m c.args.rows.now c.args.pivots.now) x (length c.args.pivots.now)) e c.if-not-is_closed_under.ensures.closed in
    record {
      work = c.is_closed_under.ensures.work;
      closed = λ i l. elim (cases_eq i c.loop-i.i) [
        | inl d ↦ subst (λ (i : ℕ). IsClosedUnder (families_of h m) (family_space h m c.args.rows.now c.args.pivots.now) (row i (family_rows h m c.args.ring_count c.args.ring.now)) (length c.args.pivots.now)) (sym d) closed
        | inr o ↦ c.loop-i.invariant.closed i (omega (arith, l, o))
      ];
    }

pub returns-clause-ideal : goal.returns-clause-ideal
returns-clause-ideal c =
    let h = c.args.header.now in let m = c.args.m.now in
    ideal_of_rows (families_of h m) (family_space h m c.args.rows.now c.args.pivots.now) (family_rows h m c.args.ring_count c.args.ring.now)
    (λ i l. c.loop-i.invariant.closed i (omega (arith, l, c.loop-i-test.false)))
