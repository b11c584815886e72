use Rattle.std.proofs.Common.{ap, arith}
use Rattle.fp_linear.specs.Matrix.{PlainMatrix}
use Rattle.module_operations.proofs.Diagonals.{diagonal_by_blocks, few_blocks, few_product, zero_matrix}
use Rattle.module_operations.proofs.sums.diagonal_blocks.Goals as goal

pub beside-requires-2-clause-size : goal.beside-requires-2-clause-size
beside-requires-2-clause-size c =
    let e = ap (λ (m : PlainMatrix). m.col_count) c.in_ok-left.ensures in
    let d = ap (λ (m : PlainMatrix). m.row_count) c.in_ok-left.ensures in
    few_blocks _ _ _ (omega (arith, e, c.cols-2.ensures.count, c.requires.small.columns)) (omega (arith, c.requires.small.columns)) (omega (arith, d, c.rows-2.ensures.count, c.requires.small.rows))

pub stack-requires-clause-size : goal.stack-requires-clause-size
stack-requires-clause-size c =
    let e = ap (λ (m : PlainMatrix). m.row_count) c.in_ok-above.ensures in
    let d = ap (λ (m : PlainMatrix). m.row_count) (c.in_ok-below.ensures) in
    let f = ap (λ (m : PlainMatrix). m.col_count) c.in_ok-above.ensures in
    let g = ap (λ (m : PlainMatrix). m.col_count) c.in_ok-right.ensures in
    let k = ap (λ (m : PlainMatrix). m.row_count) c.in_ok-left.ensures in
    few_blocks _ _ _ (omega (arith, e, c.requires.small.rows)) (omega (arith, d, k, c.rows-2.ensures.count, c.requires.small.rows)) (omega (arith, f, g, c.cols.ensures.count, c.requires.small.columns))

pub returns : goal.returns
returns c =
    diagonal_by_blocks c.args.a.now c.args.b.now c.in_ok-right.right c.in_ok-above.above c.in_ok-left.left c.in_ok-below.below c.in_ok-blocks.blocks c.requires.field
    (rw (c.field.ensures.field, c.rows.ensures.count, c.cols.ensures.count) at c.in_ok-right.ensures) c.in_ok-above.ensures
    (rw (c.field-2.ensures.field, c.rows-2.ensures.count, c.cols-2.ensures.count) at c.in_ok-left.ensures) c.in_ok-below.ensures c.in_ok-blocks.ensures

pub beside-requires-clause-right : goal.beside-requires-clause-right
beside-requires-clause-right c =
    zero_matrix c.args.a.now.field c.args.a.now.row_count c.args.b.now.col_count c.in_ok-right.right (few_product _ _ (omega (arith, c.requires.small.rows)) (omega (arith, c.requires.small.columns)))
    (rw (c.field.ensures.field, c.rows.ensures.count, c.cols.ensures.count) at c.in_ok-right.ensures)

pub beside-requires-2-clause-left : goal.beside-requires-2-clause-left
beside-requires-2-clause-left c =
    zero_matrix c.args.a.now.field c.args.b.now.row_count c.args.a.now.col_count c.in_ok-left.left (few_product _ _ (omega (arith, c.requires.small.rows)) (omega (arith, c.requires.small.columns)))
    (rw (c.field-2.ensures.field, c.rows-2.ensures.count, c.cols-2.ensures.count) at c.in_ok-left.ensures)
