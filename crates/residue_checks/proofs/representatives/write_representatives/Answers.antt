use Rattle.std.proofs.Common.{ℕ, length, ◌∙◌, refl, arith, subst}
use Rattle.local_modules.specs.Algebra.{Element}
use Rattle.claim_conditions.specs.LocalConditions.{families_of}
use Rattle.local_checks.specs.Families.{family, family_space}
use Rattle.local_checks.specs.Remainders.{IsRemainderOf}
use Rattle.local_checks.proofs.Closures.{lent_row}
use Rattle.local_checks.proofs.Remaining.{remainders_step}
use Rattle.residue_checks.specs.RingsModulo.{members}
use Rattle.residue_checks.proofs.ClassRows.{represented}
use Rattle.residue_checks.proofs.representatives.write_representatives.Goals as goal

pub loop-i-preserved : goal.loop-i-preserved
loop-i-preserved c =
    let h = c.args.header.now in let m = c.args.m.now in
    let n : ℕ = length c.args.ring_pivots.now in
    let S = c.requires.ring in
    let e = lent_row h.field n (families_of h m).size c.loop-i.i c.args.cols c.args.ring.now S.first.elements S.first.count c.loop-i-test.true c.requires.cols in
    let s = remainders_step h m c.args.rows.now c.args.pivots.now n (members (family_space h m c.args.ring.now c.args.ring_pivots.now)) c.loop-i.some c.write_rest.new.out c.loop-i.i c.args.cols c.requires.cols c.loop-i-test.true
    (c.loop-i.auto.some ∙ c.requires.room.count) c.loop-i.invariant.elements c.write_rest.ensures.out c.loop-i.invariant.remainders
    (subst (λ (x : Element (families_of h m)). IsRemainderOf h m c.args.rows.now c.args.pivots.now x (family h m c.write_rest.new.out)) e c.write_rest.ensures.remainder) in
    record { elements = s.1; remainders = s.0 }

pub returns-clause-represent : goal.returns-clause-represent
returns-clause-represent c =
    represented c.args.header.now c.args.m.now c.args.ring.now c.args.ring_pivots.now c.args.rows.now c.args.pivots.now c.requires.ring c.loop-i.some c.reduce_rows.new.entries c.reduce_rows.new.pivots c.loop-i.i
    (length c.args.ring_pivots.now) c.reduce_rows.result c.args.cols refl (omega (arith, c.loop-i-test.false, c.loop-i.auto.i-end)) c.requires.cols c.loop-i.invariant.remainders c.reduce_rows.ensures.space
