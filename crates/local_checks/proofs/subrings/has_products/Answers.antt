use Rattle.std.proofs.Common.{ℕ, inl, inr, arith, subst, sym}
use Rattle.std.proofs.lemmas.Bool.{cases_eq}
use Rattle.std.specs.Prelude.{length}
use Rattle.linear_algebra.specs.Parts.{row}
use Rattle.local_modules.specs.Algebra.{Element}
use Rattle.claim_conditions.specs.LocalConditions.{families_of}
use Rattle.local_checks.specs.Families.{family_space}
use Rattle.local_checks.specs.Closures.{IsMultipliedBy}
use Rattle.local_checks.proofs.Closures.{lent_row}
use Rattle.local_checks.proofs.ClosedSpaces.{products_of_rows, rows_of_products}
use Rattle.local_checks.proofs.subrings.has_products.Goals as goal

pub returns-then-not-has_products_with-clause-products : goal.returns-then-not-has_products_with-clause-products
returns-then-not-has_products_with-clause-products c =
    let h = c.args.header.now in let m = c.args.m.now in
    let e = lent_row h.field (length c.args.pivots.now) (families_of h m).size c.loop-i.i (length c.args.work.now) c.args.rows.now c.requires.space.elements c.requires.space.count c.loop-i-test.true c.requires.work.count in
    λ k. c.if-not-has_products_with.ensures.products (subst (λ (x : Element (families_of h m)). IsMultipliedBy (families_of h m) (family_space h m c.args.rows.now c.args.pivots.now) x (length c.args.pivots.now)) (sym e)
    (rows_of_products (families_of h m) (family_space h m c.args.rows.now c.args.pivots.now) k c.loop-i.i c.loop-i-test.true))

pub loop-i-preserved : goal.loop-i-preserved
loop-i-preserved c =
    let h = c.args.header.now in let m = c.args.m.now in
    let S = family_space h m c.args.rows.now c.args.pivots.now in
    let e = lent_row h.field (length c.args.pivots.now) (families_of h m).size c.loop-i.i (length c.args.work.now) c.args.rows.now c.requires.space.elements c.requires.space.count c.loop-i-test.true c.requires.work.count in
    let here : IsMultipliedBy (families_of h m) S (row c.loop-i.i S) (length c.args.pivots.now) =
    subst (λ (x : Element (families_of h m)). IsMultipliedBy (families_of h m) S x (length c.args.pivots.now)) e c.if-not-has_products_with.ensures.products in
    record {
      work = c.has_products_with.ensures.work;
      products = λ i l. elim (cases_eq i c.loop-i.i) [
        | inl d ↦ subst (λ (i : ℕ). IsMultipliedBy (families_of h m) S (row i S) (length c.args.pivots.now)) (sym d) here
        | inr o ↦ c.loop-i.invariant.products i (omega (arith, l, o))
      ];
    }

pub returns-clause-products : goal.returns-clause-products
returns-clause-products c =
    let h = c.args.header.now in let m = c.args.m.now in
    products_of_rows (families_of h m) (family_space h m c.args.rows.now c.args.pivots.now) (λ i l. c.loop-i.invariant.products i (omega (arith, l, c.loop-i-test.false)))
