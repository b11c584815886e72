use Rattle.std.proofs.Common.{◌<◌, ◌∙◌, length, sym, subst, arith}
use Rattle.linear_algebra.specs.Field.{Gf}
use Rattle.fp_linear.specs.Slices.{AreElements}
use Rattle.local_checks.proofs.RowLists.{matrix_row}
use Rattle.functional_checks.proofs.Columns.{value_of_row, vanish_more, number_zero, zero_number}
use Rattle.functional_checks.proofs.functional.vanish.Goals as goal

pub multiply_row-requires-clause-x_elements : goal.multiply_row-requires-clause-x_elements
multiply_row-requires-clause-x_elements c = subst (λ (q : Gf). AreElements q c.row.result.now) c.requires.field (matrix_row c.args.rows.now c.row.ensures.matrix c.loop-i.i c.row.result.now c.row.ensures.row)

pub returns-then-product-ne0 : goal.returns-then-product-ne0
returns-then-product-ne0 c = λ v.
    let inside : c.loop-i.i < c.args.rows.now.row_count = omega (arith, c.loop-i-test.true, c.rows-i-end.ensures.count) in
    let one = c.loop-i.auto.product ∙ c.requires.product in
    c.if-product-ne0.true (zero_number c.args.field c.multiply_row.new.out c.multiply_row.ensures.elements (c.multiply_row.auto.out ∙ one)
    (value_of_row c.args.field (length c.args.values.now) c.args.rows.now c.loop-i.i (length c.loop-i.product) c.row.result.now c.args.values.now c.multiply_row.new.out c.row.ensures.matrix c.requires.columns inside one c.row.ensures.row c.requires.elements c.multiply_row.ensures.product
    ∙ v.zero c.loop-i.i inside))

pub loop-i-preserved : goal.loop-i-preserved
loop-i-preserved c =
    let inside : c.loop-i.i < c.args.rows.now.row_count = omega (arith, c.loop-i-test.true, c.rows-i-end.ensures.count) in
    let one = c.loop-i.auto.product ∙ c.requires.product in
    vanish_more c.args.field (length c.args.values.now) c.args.rows.now c.args.values.now c.loop-i.i c.loop-i.invariant
    (sym (value_of_row c.args.field (length c.args.values.now) c.args.rows.now c.loop-i.i (length c.loop-i.product) c.row.result.now c.args.values.now c.multiply_row.new.out c.row.ensures.matrix c.requires.columns inside one c.row.ensures.row c.requires.elements c.multiply_row.ensures.product)
    ∙ number_zero c.args.field c.multiply_row.new.out c.multiply_row.ensures.elements (c.multiply_row.auto.out ∙ one) c.if-product-ne0.false)
