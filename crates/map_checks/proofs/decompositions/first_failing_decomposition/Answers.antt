use Rattle.std.proofs.Common.{refl, subst}
use Rattle.module_types.specs.Algebras.{algebra_at}
use Rattle.module_types.specs.Shapes.{IsModule}
use Rattle.map_checks.proofs.DecompositionTests.{sides_yes, sides_no, units_there, units_again, inverse_yes, inverse_first, inverse_second}
use Rattle.map_checks.proofs.decompositions.first_failing_decomposition.Goals as goal

pub returns-then-not-same_side : goal.returns-then-not-same_side
returns-then-not-same_side g c = (0, (refl, λ h. c.if-not-same_side.ensures h.1.whole))

pub returns-then-not-have_side : goal.returns-then-not-have_side
returns-then-not-have_side g c = (0, (refl, λ h. c.if-not-have_side.ensures (sides_no c.args.a.now c.args.s.now (g.P.Parts.modules c.args.parts.now) h.1)))

pub returns-then-not-are_in_order : goal.returns-then-not-are_in_order
returns-then-not-are_in_order g c =
    let sides = sides_yes c.args.a.now c.args.s.now (g.P.Parts.modules c.args.parts.now) c.if-not-same_side.ensures c.if-not-have_side.ensures in
    (1, ((tt, sides), (refl, c.if-not-are_in_order.ensures)))

pub is_sum-requires-clause-s : goal.is_sum-requires-clause-s
is_sum-requires-clause-s g c = subst (λ side. IsModule c.args.header.now.field (algebra_at side c.args.header.now).quiver c.args.s.now) c.if-not-same_side.ensures c.requires.s

pub returns-then-not-is_sum : goal.returns-then-not-is_sum
returns-then-not-is_sum g c =
    let sides = sides_yes c.args.a.now c.args.s.now (g.P.Parts.modules c.args.parts.now) c.if-not-same_side.ensures c.if-not-have_side.ensures in
    (2, ((tt, sides), (c.if-not-are_in_order.ensures, (refl, c.if-not-is_sum.ensures))))

pub are_unit_products-requires : goal.are_unit_products-requires
are_unit_products-requires g c = record { fit = units_there c.args.header.now c.args.a.now c.args.s.now c.args.to.now c.args.back.now c.requires.to c.requires.back }

pub are_unit_products-requires-2 : goal.are_unit_products-requires-2
are_unit_products-requires-2 g c = record { fit = units_again c.args.header.now c.args.a.now c.args.s.now c.args.to.now c.args.back.now c.requires.to c.requires.back }

pub returns-then-not-are_unit_products : goal.returns-then-not-are_unit_products
returns-then-not-are_unit_products g c =
    let sides = sides_yes c.args.a.now c.args.s.now (g.P.Parts.modules c.args.parts.now) c.if-not-same_side.ensures c.if-not-have_side.ensures in (
      3,
      (
        (tt, sides),
        (
          c.if-not-are_in_order.ensures,
          (
            c.if-not-is_sum.ensures,
            (
              refl,
              λ i. c.if-not-are_unit_products.ensures
                  (inverse_first c.args.header.now c.args.a.now c.args.s.now c.args.to.now c.args.back.now c.requires.to c.requires.back i),
            ),
          ),
        ),
      ),
    )

pub returns-then-not-are_unit_products-2 : goal.returns-then-not-are_unit_products-2
returns-then-not-are_unit_products-2 g c =
    let sides = sides_yes c.args.a.now c.args.s.now (g.P.Parts.modules c.args.parts.now) c.if-not-same_side.ensures c.if-not-have_side.ensures in (
      3,
      (
        (tt, sides),
        (
          c.if-not-are_in_order.ensures,
          (
            c.if-not-is_sum.ensures,
            (
              refl,
              λ i. c.if-not-are_unit_products-2.ensures
                  (inverse_second c.args.header.now c.args.a.now c.args.s.now c.args.to.now c.args.back.now c.requires.to c.requires.back i),
            ),
          ),
        ),
      ),
    )

pub returns : goal.returns
returns g c =
    let sides = sides_yes c.args.a.now c.args.s.now (g.P.Parts.modules c.args.parts.now) c.if-not-same_side.ensures c.if-not-have_side.ensures in
    let inverse = inverse_yes c.args.header.now c.args.a.now c.args.s.now c.args.to.now c.args.back.now c.requires.to c.requires.back c.if-not-are_unit_products.ensures c.if-not-are_unit_products-2.ensures in
    ((tt, sides), (c.if-not-are_in_order.ensures, (c.if-not-is_sum.ensures, (inverse, tt))))
