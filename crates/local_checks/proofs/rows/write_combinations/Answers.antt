use Rattle.std.proofs.Common.{ℕ, ◌<◌, ◌+◌, ◌-◌, ◌*◌, ◌∙◌, ap, arith, length}
use Rattle.local_checks.proofs.RowLists.{product_step, combinations_standing, matrix_row}
use Rattle.local_checks.proofs.rows.write_combinations.Goals as goal

pub multiply_row-requires-clause-x_elements : goal.multiply_row-requires-clause-x_elements
multiply_row-requires-clause-x_elements c = rw c.field-field.ensures.field (matrix_row c.args.coordinates.now c.row.ensures.matrix c.loop-i.i c.row.result.now c.row.ensures.row)

pub loop-i-preserved : goal.loop-i-preserved
loop-i-preserved c =
    let M = c.args.coordinates.now in
    let inside : c.loop-i.i < M.row_count = omega (arith, c.loop-i-test.true, c.rows-i-end.ensures.count) in
    let s = product_step M.field M.row_count c.args.cols M.col_count c.loop-i.i (c.loop-i.i * c.args.cols + c.args.cols - c.loop-i.i * c.args.cols) M.rows c.row.result.now c.args.basis.now c.args.rows.now c.loop-i.rows c.multiply_row.new.out inside
    c.row.ensures.matrix.grid.count (c.loop-i.auto.rows ∙ c.requires.count) (omega arith) c.row.ensures.row (ap length c.row.ensures.row ∙ c.row.ensures.matrix.grid.width c.loop-i.i inside)
    c.loop-i.invariant.elements (rw c.field-field.ensures.field at c.multiply_row.ensures.elements) (rw c.field-field.ensures.field at c.multiply_row.ensures.product) c.loop-i.invariant.written in
    record { written = s.0; elements = s.1 }

pub returns-clause-rows : goal.returns-clause-rows
returns-clause-rows c = combinations_standing c.args.coordinates.now.field c.args.coordinates.now.row_count c.args.coordinates.now.col_count c.args.cols (c.loop-i.i * c.args.cols) c.args.coordinates.now.rows c.args.basis.now
    c.args.rows.now c.loop-i.rows c.field-field.ensures.matrix.grid c.requires.basis_elements (ap (λ (k : ℕ). k * c.args.cols) (omega (arith, c.loop-i-test.false, c.loop-i.auto.i-end, c.rows-i-end.ensures.count))) c.loop-i.invariant.written
