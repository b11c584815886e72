use Rattle.std.proofs.Common.{ℕ, length, ◌∙◌, arith, subst}
use Rattle.linear_algebra.specs.Field.{order}
use Rattle.linear_algebra.specs.Matrix.{◌⊞◌, ◌⊙◌}
use Rattle.local_modules.specs.Algebra.{Element, power_in}
use Rattle.claim_conditions.specs.LocalConditions.{families_of}
use Rattle.local_checks.specs.Families.{family, family_rows}
use Rattle.local_checks.specs.Remainders.{IsRemainderOf, power_and_multiple}
use Rattle.local_checks.proofs.Closures.{lent_row}
use Rattle.local_checks.proofs.Remaining.{remainders_step, remainders_done}
use Rattle.local_checks.proofs.residues.remainders_rank.Goals as goal

pub loop-i-init : goal.loop-i-init
loop-i-init c = record { work = c.requires.work; elements = c.requires.rest_elements; remainders = λ j l. absurd (omega arith) }

pub loop-i-preserved : goal.loop-i-preserved
loop-i-preserved c =
    let h = c.args.header.now in let m = c.args.m.now in
    let n : ℕ = length c.args.work.now in
    let e = lent_row h.field c.args.count (families_of h m).size c.loop-i.i n c.args.ring.now c.requires.ring_elements c.requires.ring_count c.loop-i-test.true c.requires.work.count in
    let s = remainders_step h m c.args.rows.now c.args.pivots.now c.args.count (power_and_multiple (families_of h m) (family_rows h m c.args.count c.args.ring.now) c.args.factor) c.loop-i.rest c.write_remainder.new.out c.loop-i.i n c.requires.work.count c.loop-i-test.true
    (c.loop-i.auto.rest ∙ c.requires.rest_count) c.loop-i.invariant.elements c.write_remainder.ensures.out c.loop-i.invariant.remainders
    (subst (λ (x : Element (families_of h m)). IsRemainderOf h m c.args.rows.now c.args.pivots.now (power_in (families_of h m) x (order h.field) ⊞ c.args.factor ⊙ x) (family h m c.write_remainder.new.out)) e c.write_remainder.ensures.remainder) in
    record { work = c.write_remainder.ensures.work; elements = s.1; remainders = s.0 }

pub returns-clause-rank : goal.returns-clause-rank
returns-clause-rank c =
    let h = c.args.header.now in let m = c.args.m.now in
    remainders_done h m c.args.rows.now c.args.pivots.now c.args.count (power_and_multiple (families_of h m) (family_rows h m c.args.count c.args.ring.now) c.args.factor) c.loop-i.rest c.reduce_rows.new.entries c.reduce_rows.new.pivots c.loop-i.i c.reduce_rows.result (length c.args.work.now)
    (omega (arith, c.loop-i-test.false, c.loop-i.auto.i-end)) c.requires.work.count c.loop-i.invariant.remainders c.reduce_rows.ensures.space
