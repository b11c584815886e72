use Rattle.claim_conditions.specs.LocalConditions.{families_of}
use Rattle.local_checks.specs.Families.{family, family_space}
use Rattle.local_checks.proofs.Closures.{closed_decided}
use Rattle.local_checks.proofs.ideals.is_closed_at.Goals as goal

pub returns-clause-closed : goal.returns-clause-closed
returns-clause-closed c =
    let h = c.args.header.now in let m = c.args.m.now in
    closed_decided (families_of h m) (family_space h m c.args.rows.now c.args.pivots.now) (family h m c.args.left.now) (family h m c.args.right.now) c.has_product-2.result c.if-not-has_product.ensures.member c.has_product-2.ensures.member
