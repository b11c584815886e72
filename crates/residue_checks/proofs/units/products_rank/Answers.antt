use Rattle.std.proofs.Common.{ℕ, length, ◌∙◌, arith, subst}
use Rattle.local_modules.specs.Algebra.{Element}
use Rattle.claim_conditions.specs.LocalConditions.{families_of}
use Rattle.local_checks.specs.Families.{family, family_rows}
use Rattle.local_checks.specs.Remainders.{IsRemainderOf}
use Rattle.local_checks.proofs.Closures.{lent_row}
use Rattle.local_checks.proofs.Remaining.{remainders_step, remainders_done}
use Rattle.residue_checks.specs.RingsModulo.{products_with}
use Rattle.residue_checks.proofs.units.products_rank.Goals as goal

pub loop-i-preserved : goal.loop-i-preserved
loop-i-preserved c =
    let h = c.args.header.now in let m = c.args.m.now in
    let n : ℕ = length c.args.y.now in
    let e = lent_row h.field c.args.count (families_of h m).size c.loop-i.i n c.args.ring.now c.requires.ring_elements c.requires.ring_count c.loop-i-test.true c.requires.y.count in
    let s = remainders_step h m c.args.rows.now c.args.pivots.now c.args.count (products_with (families_of h m) (family_rows h m c.args.count c.args.ring.now) (family h m c.args.y.now)) c.loop-i.rest c.write_product_rest.new.out
    c.loop-i.i n c.requires.y.count c.loop-i-test.true (c.loop-i.auto.rest ∙ c.requires.room.count) c.loop-i.invariant.elements c.write_product_rest.ensures.out c.loop-i.invariant.remainders
    (subst (λ (x : Element (families_of h m)). IsRemainderOf h m c.args.rows.now c.args.pivots.now ((families_of h m).product x (family h m c.args.y.now)) (family h m c.write_product_rest.new.out)) e
    c.write_product_rest.ensures.remainder) in
    record { elements = s.1; remainders = s.0 }

pub returns-clause-rank : goal.returns-clause-rank
returns-clause-rank c =
    let h = c.args.header.now in let m = c.args.m.now in
    remainders_done h m c.args.rows.now c.args.pivots.now c.args.count (products_with (families_of h m) (family_rows h m c.args.count c.args.ring.now) (family h m c.args.y.now)) c.loop-i.rest c.reduce_rows.new.entries
    c.reduce_rows.new.pivots c.loop-i.i c.reduce_rows.result (length c.args.y.now) (omega (arith, c.loop-i-test.false, c.loop-i.auto.i-end)) c.requires.y.count c.loop-i.invariant.remainders c.reduce_rows.ensures.space
