use Rattle.std.proofs.Common.{◌≡◌, subst, arith}
use Rattle.linear_algebra.specs.Rows.{entry}
use Rattle.linear_algebra.specs.Matrix.{delta}
use Rattle.module_checks.proofs.VertexMatrices.{place_is_last, no_place}
use Rattle.module_checks.proofs.column_reduced.place_from.Goals as goal

pub returns-then-p-least : goal.returns-then-p-least
returns-then-p-least c r l is =
    let m = c.args.matrix.now in
    let e = place_is_last m.row_count m.col_count m.rows c.args.k c.in-Some.p r c.requires c.in-Some.ensures.0 c.in-Some.ensures.1 c.in-Some.ensures.2 is in
    omega (arith, e, l, c.if-p-least.true)

pub returns-then-not-is_unit_row : goal.returns-then-not-is_unit_row
returns-then-not-is_unit_row c r l is =
    let m = c.args.matrix.now in
    let e = place_is_last m.row_count m.col_count m.rows c.args.k c.in-Some.p r c.requires c.in-Some.ensures.0 c.in-Some.ensures.1 c.in-Some.ensures.2 is in
    c.if-not-is_unit_row.ensures (λ j b. subst (λ p. entry m.rows p j ≡ delta c.args.k j) e (is.unit j b))

pub returns-in-None : goal.returns-in-None
returns-in-None c r l is = let m = c.args.matrix.now in no_place m.row_count m.col_count m.rows c.args.k r c.requires c.in-None.ensures is
