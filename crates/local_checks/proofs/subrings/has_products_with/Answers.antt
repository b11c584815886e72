use Rattle.std.proofs.Common.{subst, sym}
use Rattle.std.specs.Prelude.{length}
use Rattle.linear_algebra.specs.Rank.{IsInSpan}
use Rattle.local_modules.specs.Algebra.{Element}
use Rattle.claim_conditions.specs.LocalConditions.{families_of}
use Rattle.local_checks.specs.Families.{family, family_space}
use Rattle.local_checks.proofs.Closures.{lent_row}
use Rattle.local_checks.proofs.ClosedSpaces.{multiplied_more}
use Rattle.local_checks.proofs.subrings.has_products_with.Goals as goal

pub returns-then-not-has_product-clause-products : goal.returns-then-not-has_product-clause-products
returns-then-not-has_product-clause-products c =
    let h = c.args.header.now in let m = c.args.m.now in
    let e = lent_row h.field (length c.args.pivots.now) (families_of h m).size c.loop-j.j (length c.args.left.now) c.args.rows.now c.requires.space.elements c.requires.space.count c.loop-j-test.true c.requires.left.count in
    λ k. c.if-not-has_product.ensures.member (subst (λ (z : Element (families_of h m)). IsInSpan (family_space h m c.args.rows.now c.args.pivots.now) ((families_of h m).product (family h m c.args.left.now) z)) (sym e) (k c.loop-j.j c.loop-j-test.true))

pub loop-j-preserved : goal.loop-j-preserved
loop-j-preserved c =
    let h = c.args.header.now in let m = c.args.m.now in
    let e = lent_row h.field (length c.args.pivots.now) (families_of h m).size c.loop-j.j (length c.args.left.now) c.args.rows.now c.requires.space.elements c.requires.space.count c.loop-j-test.true c.requires.left.count in
    record {
      work = c.has_product.ensures.work;
      products = multiplied_more (families_of h m) (family_space h m c.args.rows.now c.args.pivots.now) (family h m c.args.left.now) _ c.loop-j.j e c.loop-j.invariant.products c.if-not-has_product.ensures.member;
    }
