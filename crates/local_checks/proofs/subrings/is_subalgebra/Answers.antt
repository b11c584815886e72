use Rattle.claim_conditions.specs.LocalConditions.{families_of}
use Rattle.local_checks.specs.Families.{family_space}
use Rattle.local_checks.proofs.ClosedSpaces.{subalgebra_decided}
use Rattle.local_checks.proofs.subrings.is_subalgebra.Goals as goal

pub returns-then-not-is_member-clause-subalgebra : goal.returns-then-not-is_member-clause-subalgebra
returns-then-not-is_member-clause-subalgebra c =
    let h = c.args.header.now in let m = c.args.m.now in
    let lost = rw (c.write_unit.ensures.out.count, c.write_unit.ensures.unit) at c.if-not-is_member.ensures.member in
    λ k. lost k.has_unit

pub returns-clause-subalgebra : goal.returns-clause-subalgebra
returns-clause-subalgebra c =
    let h = c.args.header.now in let m = c.args.m.now in
    let unit = rw (c.write_unit.ensures.out.count, c.write_unit.ensures.unit) at c.if-not-is_member.ensures.member in
    subalgebra_decided (families_of h m) (family_space h m c.args.rows.now c.args.pivots.now) c.has_products.result unit c.has_products.ensures.products
